-- What the event of one task leaves of another.
use Rattle.std.proofs.Common.{◌≡◌, ◌≢◌, ℕ, Bool, true, false, not, ◌&&◌, eqb, Some, None, is_some, length, map, refl, sym, ap, ◌∙◌, arith, inr}
use Rattle.std.specs.List.{range_with_len}
use Rattle.std.proofs.lemmas.Bool.{eqb-true, eq-eqb, ne_eqb}
use Rattle.std.proofs.lemmas.Option.{same_Some}
use Rattle.phase_base.specs.declared.mode.Mode.{Mode}
use Rattle.phase_history.specs.declared.event.Event.{Event}
use Rattle.phase_history.specs.declared.event.Event.TheVariants.{Signalled, Waited, Dropped}
use Rattle.graph_base.specs.declared.line.Parent.{Parent}
use Rattle.graph_base.specs.Graphs.{task_at, phaser_at}
use Rattle.stream_lists.specs.Jobs.{Job}
use Rattle.stream_lists.proofs.Basics.{find-same}
use Rattle.graph_runs.specs.Moments.{one, Moment}
use Rattle.graph_runs.specs.Moves.{HasMoved, SameTask, Registers, RegistersNow}
use Rattle.graph_runs.proofs.InBlocks.{next_samples_are, next_signals_are, first_waits_are}
use Rattle.graph_runs.proofs.JoinsNow.{next_child_now_is}
use Rattle.graph_runs.proofs.Turned.{exchange_wait_is, next_leave_is, next_child_is}
use Rattle.graph_runs.specs.TaskEvents.{TaskEvent, IsNext, sample, signal, first_wait, exchange_wait, leave, child, child_now, after_turn}
use Rattle.graph_runs.specs.TaskPlaces.{child_of}
use Rattle.graph_runs.specs.Nexts.{comes_by, first_due, first_missing, has_registered, is_due, is_live, registrations_at}
use Rattle.graph_runs.specs.Reached.{IsReachable}
use Rattle.graph_runs.specs.Answers.{makes, turn_up_to}
use Rattle.graph_runs.proofs.PlacesFollow.{others_follow}
use Rattle.graph_runs.proofs.Signalling.{live-is}
use Rattle.graph_runs.proofs.Whose.{IsInOrder, task_of}
use Rattle.stream_job.specs.Machines.{IsMachineAt}
use Rattle.stream_job.specs.Places.{place_in_state}
use Rattle.stream_job.specs.Turning.{phaser_of}
use Rattle.stream_job.specs.declared.machine.Machine.{Machine}
use Rattle.stream_job.proofs.Makes.{makes_event}
use Rattle.stream_job.proofs.Reading.{live_by, complete}
use Rattle.stream_job.proofs.Mosts.{element}
use Rattle.graph_runs.specs.NextBlocks.{MaySize}

-- task u is as it was, and has the children to register that it had; no phaser but p had an event
pub record LeavesAlone (job : Job) (before after : Moment) (u p : ℕ) : Type 0 where
  pub same : SameTask before after u
  pub numbers : (q : ℕ) → after.number q u ≡ before.number q u
  pub elsewhere : (q : ℕ) → q ≢ p → after.history q ≡ before.history q
  pub due : first_due job after u ≡ first_due job before u

missing_same : (job : Job) (before after : Moment) (c : ℕ)
    → ((q : ℕ) → after.number q c ≡ before.number q c)
    → first_missing job after c ≡ first_missing job before c
missing_same job before after c numbers =
    find-same (λ r. not (has_registered after c r)) (λ r. not (has_registered before c r))
    (registrations_at job c) (λ r. ap (λ o. not (is_some o)) (numbers r.phaser))

due_same : (job : Job) (before after : Moment) (u c : ℕ) → after.begun u ≡ before.begun u
    → ((q : ℕ) → after.number q c ≡ before.number q c)
    → is_due job after u c ≡ is_due job before u c
due_same job before after u c begun numbers =
    ap (λ b. comes_by u b (task_at job.graph c).parent && is_some (first_missing job after c)) begun
    ∙ ap (λ o. comes_by u (before.begun u) (task_at job.graph c).parent && is_some o)
    (missing_same job before after c numbers)

alone_moved : (job : Job) (before after : Moment) (t u p : ℕ) (event : Event)
    → HasMoved job before after t p event → u ≢ t → LeavesAlone job before after u p
alone_moved job before after t u p event moved apart = record {
  same = moved.others u apart;
  numbers = λ q. moved.numbers q u;
  elsewhere = moved.elsewhere;
  due = find-same (is_due job after u) (is_due job before u)
      (range_with_len 0 (length job.graph.tasks))
      (λ c. due_same job before after u c (moved.others u apart).begun (λ q. moved.numbers q c));
}

-- a child that another task registers
not_due : (job : Job) (m : Moment) (u c : ℕ) (parent : Parent)
    → (task_at job.graph c).parent ≡ Some parent → parent.task ≢ u → is_due job m u c ≡ false
not_due job m u c parent is apart =
    ap (λ o. comes_by u (m.begun u) o && is_some (first_missing job m c)) is
    ∙ ap (λ b. (b && eqb parent.at (m.begun u)) && is_some (first_missing job m c))
    (ne_eqb parent.task u apart)

-- task u has the children to register that it had, where another task registered a child
due_apart : (job : Job) (before after : Moment) (t c u : ℕ) (parent : Parent)
    → (task_at job.graph c).parent ≡ Some parent → parent.task ≡ t → u ≢ t
    → after.begun u ≡ before.begun u
    → ((q d : ℕ) → d ≢ c → after.number q d ≡ before.number q d)
    → first_due job after u ≡ first_due job before u
due_apart job before after t c u parent its_parent by_task apart begun numbers =
    find-same (is_due job after u) (is_due job before u)
    (range_with_len 0 (length job.graph.tasks)) (λ d. by d (eqb d c) refl)
  where
    by : (d : ℕ) (b : Bool) → eqb d c ≡ b → is_due job after u d ≡ is_due job before u d
    by d true e =
        let same : d ≡ c = eqb-true d c e in
        let its : (task_at job.graph d).parent ≡ Some parent =
        ap (λ x. (task_at job.graph x).parent) same ∙ its_parent in
        let another : parent.task ≢ u = λ it. apart (sym it ∙ by_task) in
        not_due job after u d parent its another ∙ sym (not_due job before u d parent its another)
    by d false e =
        due_same job before after u d begun
        (λ q. numbers q d (λ same. (let no = sym (eq-eqb d c same) ∙ e in cc)))

alone_registered : (job : Job) (before after : Moment) (t p n c a u : ℕ) (mode : Mode)
    (parent : Parent) → Registers job before after t p n c a mode parent → u ≢ t → u ≢ c
    → LeavesAlone job before after u p
alone_registered job before after t p n c a u mode parent s apart other = record {
  same = s.same u;
  numbers = λ q. s.other_numbers q u (inr other);
  elsewhere = s.elsewhere;
  due = due_apart job before after t c u parent s.parent s.by apart (s.same u).begun
      (λ q d differs. s.other_numbers q d (inr differs));
}

-- a sink that joins now is registered by another task
alone_now : (job : Job) (before after : Moment) (t p n c a u : ℕ) (parent : Parent)
    → RegistersNow job before after t p n c a parent → u ≢ t → u ≢ c
    → LeavesAlone job before after u p
alone_now job before after t p n c a u parent s apart other = record {
  same = s.same u other;
  numbers = λ q. s.other_numbers q u (inr other);
  elsewhere = s.elsewhere;
  due = due_apart job before after t c u parent s.parent s.by apart (s.same u other).begun
      (λ q d differs. s.other_numbers q d (inr differs));
}

pub alone : (job : Job) (m : Moment) (event : TaskEvent) (u : ℕ) → IsReachable job m
    → IsNext job m event → u ≢ task_of event → child_of event ≢ Some u
    → LeavesAlone job m (after_turn job event m) u (phaser_of event)
alone job m (sample t j p n vs) u reached next apart other =
    let s = next_samples_are job m t j p n vs next.1 (reached.ran.tasks t next.0.task) in
    alone_moved job m (after_turn job (sample t j p n vs) m) t u p
    (Signalled n (map one vs) (phaser_at job.graph p).single) s.moved apart
alone job m (signal t j p n vs) u reached next apart other =
    let s = next_signals_are job m t j p n vs next.1 (reached.ran.tasks t next.0.task) in
    alone_moved job m (after_turn job (signal t j p n vs) m) t u p
    (Signalled n (map one vs) (phaser_at job.graph p).single) s.moved apart
alone job m (first_wait t k p n outcomes) u reached next apart other =
    let s = first_waits_are job m t k p n outcomes next.1 in
    alone_moved job m (after_turn job (first_wait t k p n outcomes) m) t u p
    (Waited n (length outcomes)) s.moved apart
alone job m (exchange_wait t p n outcome) u reached next apart other =
    let s = exchange_wait_is job m t p n outcome next.1 in
    alone_moved job m (after_turn job (exchange_wait t p n outcome) m) t u p (Waited n 1) s.moved
    apart
alone job m (leave t p n) u reached next apart other =
    let s = next_leave_is job m t p n next.1 in
    alone_moved job m (after_turn job (leave t p n) m) t u p (Dropped n) s.moved apart
alone job m (child t p n c a mode) u reached next apart other =
    let s = next_child_is job m t p n c a mode next.1.0 next.1.1 in
    alone_registered job m (after_turn job (child t p n c a mode) m) t p n c a u mode next.1.0 s
    apart (λ same. other (ap (λ x. Some x) (sym same)))
alone job m (child_now t p n c a) u reached next apart other =
    let s = next_child_now_is job m t p n c a next.1.0 next.1.1 in
    alone_now job m (after_turn job (child_now t p n c a) m) t p n c a u next.1.0 s apart
    (λ same. other (ap (λ x. Some x) (sym same)))

-- ---- it is live

-- a task that misses no registration is none that is registered
pub no_child : (job : Job) (m : Moment) (event : TaskEvent) (u : ℕ) → IsInOrder job m event
    → first_missing job m u ≡ None → child_of event ≢ Some u
no_child job m (sample t j p n vs) u order none = λ e. (cc)
no_child job m (signal t j p n vs) u order none = λ e. (cc)
no_child job m (first_wait t k p n outcomes) u order none = λ e. (cc)
no_child job m (exchange_wait t p n outcome) u order none = λ e. (cc)
no_child job m (leave t p n) u order none = λ e. (cc)
no_child job m (child t p n c a mode) u order none = λ e.
    (let wrong : Some order.0 ≡ None =
    sym order.1 ∙ ap (first_missing job m) (same_Some c u e) ∙ none in cc)
no_child job m (child_now t p n c a) u order none = λ e.
    (let wrong : Some order.0 ≡ None =
    sym order.1 ∙ ap (first_missing job m) (same_Some c u e) ∙ none in cc)

pub lives_on : {steps most : ℕ} (job : Job) (m : Moment) (machine : Machine) (t u : ℕ)
    (event : TaskEvent) → MaySize job.graph t steps most → IsMachineAt job m machine → turn_up_to steps most job m t ≡ makes event → u ≢ t
    → child_of event ≢ Some u → is_live job m u ≡ true
    → is_live job (after_turn job event m) u ≡ true
lives_on job m machine t u event sized at answer apart other live =
    let living = live-is job m u live in
    let there = living.there in
    let many = at.tasks_many in
    let found = element machine.tasks.items u (omega arith) in
    let stands = (at.tasks u found.0 found.1).stands in
    let made = makes_event job m t event sized at.graph at.reached answer in
    let after = others_follow job m u event (place_in_state found.0) at.graph at.reached.ran made.next
    there (λ same. apart (same ∙ made.own)) other stands in
    let all = complete job m u (place_in_state found.0) stands (ap is_some living.all) in
    live_by job (after_turn job event m) u (place_in_state found.0) after there all
    ∙ sym (live_by job m u (place_in_state found.0) stands there all) ∙ live
