-- The turn of a task that registers its child.
use Rattle.std.proofs.Common.{◌≡◌, ◌≢◌, ℕ, List, ◌+◌, ◌-◌, ◌^◌, ◌<◌, ◌≤◌, Bool, true, false, cond, eqb, [], ◌∷◌, ◌++◌, Option, Some, None, length, get_or, slice_get, set, is_some, refl, sym, ap, subst, ◌∙◌, ◌⊎◌, inl, inr, arith, map}
use Rattle.std.specs.Prelude.{unwrap_or, nat_lt, option_map}
use Rattle.smallvec.specs.SmallVec.{SmallVec}
use Rattle.phase_registry.specs.Rosters.{next_after}
use Rattle.graph_base.specs.declared.line.Kind.TheVariants.{Source}
use Rattle.graph_base.specs.declared.registration.Registration.{Registration}
use Rattle.graph_base.proofs.Registered.{registrations-phasers}
use Rattle.graph_runs.specs.Reached.{IsReachable}
use Rattle.std.proofs.lemmas.List.{length-set, length-map, length-append, get_or-map, get_or_append_left}
use Rattle.std.proofs.lemmas.Bool.{cases_lt, eqb-true, eq-eqb}
use Rattle.std.proofs.lemmas.Option.{slice_get-get_or, slice_get_past, slice_get_read}
use Rattle.phase_base.specs.declared.mode.Mode.{Mode}
use Rattle.phase_history.specs.declared.refusal.RegisterRefusal.{RegisterRefusal}
use Rattle.phase_history.specs.Histories.{greatest_used, done_of}
use Rattle.phase_history.specs.Refusals.{register_refusal, register_now_refusal}
use Rattle.graph_base.specs.Graphs.{task_at}
use Rattle.graph_base.specs.Registrations.{no_registration}
use Rattle.graph_base.specs.TaskLines.{IsGraph}
use Rattle.stream_lists.specs.Jobs.{Job}
use Rattle.stream_lists.specs.Lists.{sinks_of}
use Rattle.graph_runs.specs.Moments.{Moment, HasRun, input_at, first_input}
use Rattle.graph_runs.specs.Turned.{with_at}
use Rattle.graph_runs.specs.Nexts.{is_live, is_due, next_of, number_on, first_due, registrations_at, registers, signals, exchanges, samples, waits}
use Rattle.graph_runs.specs.TaskEvents.{TaskEvent, sample, signal, first_wait, exchange_wait, leave, child, child_now, after_turn}
use Rattle.graph_runs.specs.Answers as answers
use Rattle.graph_runs.specs.Answers.{makes, after_answer, accepted_answer, call_register, register_answer, told_event, turn_up_to, answer_up_to}
use Rattle.graph_runs.specs.TaskPlaces.{TaskPlace, StandsUpTo, registration_at, own_place, child_of, number_given}
use Rattle.graph_runs.specs.Steps.{HasFilter}
use Rattle.graph_runs.proofs.Signalling.{live-is, found_below}
use Rattle.graph_runs.proofs.Standing.{missing}
use Rattle.graph_runs.proofs.PlacesFollow.{child_follows, parent_follows}
use Rattle.graph_runs.proofs.TurnRegistering.{due_child}
use Rattle.graph_runs.proofs.PlacesLemmas.{on_ends}
use Rattle.stream_job.specs.Places.{IsTaskAt, place_in_state}
use Rattle.stream_job.specs.Machines.{IsMachineAt, HasCores, UsesFew, KeepsLines, kept_behind, most_in, none_given}
use Rattle.stream_job.specs.SinkLines.{sink_begins_at}
use Rattle.stream_job.specs.Turning.{HadTurn, MadeShows, phaser_of, turn_in}
use Rattle.stream_job.specs.Stepping.{IsNextIn, child_refusal, add_event, begins_with, LineHasBegun}
use Rattle.stream_eval.specs.declared.whole.Lines.{Lines}
use Rattle.stream_job.specs.declared.machine.Machine.{Machine}
use Rattle.stream_job.specs.declared.task_state.TaskState.{TaskState}
use Rattle.stream_job.specs.declared.made.Made.TheVariants.{Event}
use Rattle.stream_job.specs.declared.turned.Turned.TheVariants.{Moved}
use Rattle.stream_job.proofs.SinksKeep.{NoSinkWaits, lines_stay}
use Rattle.stream_job.proofs.SinkLines.{map_same}
use Rattle.stream_job.proofs.Mosts.{mosts_set}
use Rattle.stream_job.proofs.Makes.{MakesEvent, makes_event}
use Rattle.stream_job.proofs.Ending.{all_numbered, number-at}
use Rattle.stream_job.proofs.Lively.{live_next, phaser_there}
use Rattle.stream_job.proofs.WhatNext.{Doing, owing, parent, leaving, stepping, doing, step_is, begins_is}
use Rattle.stream_job.proofs.Events.{keeps_other, set_state}

-- a task that registers a child has it due
pub child_due : (job : Job) (m : Moment) (t c : ℕ) → next_of job m t ≡ registers c
    → first_due job m t ≡ Some c
child_due job m t c is = by (doing job m t (registers c) is (λ e. absurd (cc)))
  where
    step : (i : ℕ) → (exchanges ≡ registers c) ⊎ (signals i ≡ registers c)
        → first_due job m t ≡ Some c
    step i (inl e) = absurd (cc)
    step i (inr e) = absurd (cc)

    start : ((task_at job.graph t).kind ≡ Source × (samples ≡ registers c))
        ⊎ ((task_at job.graph t).kind ≢ Source
        × (waits (first_input (task_at job.graph t) (m.begun t)) ≡ registers c))
        → first_due job m t ≡ Some c
    start (inl e) = absurd (let wrong = e.1 in cc)
    start (inr e) = absurd (let wrong = e.1 in cc)

    same : (d : ℕ) → registers d ≡ registers c → d ≡ c
    same d e = cc

    by : Doing job m t (registers c) → first_due job m t ≡ Some c
    by (owing s) = step s.output (step_is job m t s.output (registers c) s.is)
    by (parent d none due e) = due ∙ ap (λ x. Some x) (same d e)
    by (leaving e) = absurd (cc)
    by (stepping s) = start (begins_is job m t (registers c) s.is)

-- where the child comes next
pub record ChildAt (steps most : ℕ) (job : Job) (m : Moment) (t c : ℕ) (state : TaskState) : Type 0 where
  pub live : is_live job m t ≡ true
  pub there : t < length job.graph.tasks
  pub child_there : c < length job.graph.tasks
  pub few : length state.numbers.items < length (registrations_at job c)
  pub phaser : (registration_at job c (length state.numbers.items)).phaser
      < length job.graph.phasers
  pub answer : let r = registration_at job c (length state.numbers.items) in
      turn_up_to steps most job m t ≡ register_answer m t c r (task_at job.graph c).joins_now

pub child_below : {steps : ℕ} (job : Job) (machine : Machine) (t c : ℕ)
    → IsNextIn steps job machine t (registers c) → c < length machine.tasks.items
child_below job machine t c next =
    let at = next.some.1 in
    let lt = (found_below (is_due job next.some.0 t) (length job.graph.tasks) c
    (child_due job next.some.0 t c (next.is next.some.0 at))).1 in
    omega (arith, at.tasks_many)

-- its state, as it is read
pub child_read : {steps : ℕ} {job : Job} {machine : Machine} {t c : ℕ} {state : TaskState}
    → IsNextIn steps job machine t (registers c) → state ≡ get_or machine.tasks.items c state
    → slice_get machine.tasks.items c ≡ Some state
child_read {steps} {job} {machine} {t} {c} {state} next read =
    slice_get_read machine.tasks.items (length machine.tasks.items) c state refl
    (child_below job machine t c next) read

pub child_at : {steps : ℕ} (job : Job) (machine : Machine) (m : Moment) (t c : ℕ) (state : TaskState)
    → IsNextIn steps job machine t (registers c) → IsMachineAt job m machine
    → slice_get machine.tasks.items c ≡ Some state → ChildAt steps (most_in machine t) job m t c state
child_at {steps} job machine m t c state next at found =
    let is = next.is m at in
    let live = live_next job m t (registers c) is (λ e. absurd (cc)) in
    let living = live-is job m t live in
    let due = child_due job m t c is in
    let d = due_child job m t c at.graph due in
    let below = (found_below (is_due job m t) (length job.graph.tasks) c due).1 in
    let it = (at.tasks c state found).stands in
    let miss = missing job m c (place_in_state state) it in
    let few = within (cases_lt (length state.numbers.items) (length (registrations_at job c)))
    (sym (ap is_some miss) ∙ d.missing) in
    record {
      live = live;
      there = living.there;
      child_there = below;
      few = few;
      phaser = phaser_there job c (length state.numbers.items) at.graph below few;
      answer = ap (answer_up_to steps (most_in machine t) job m t) is
          ∙ ap (call_register job m t c) (miss
          ∙ slice_get-get_or (registrations_at job c) (length state.numbers.items) no_registration few);
    }
  where
    within : (length state.numbers.items < length (registrations_at job c))
        ⊎ (length (registrations_at job c) ≤ length state.numbers.items)
        → is_some (slice_get (registrations_at job c) (length state.numbers.items)) ≡ true
        → length state.numbers.items < length (registrations_at job c)
    within (inl lt) some = lt
    within (inr past) some =
        absurd (let none = ap is_some (slice_get_past (registrations_at job c)
        (length state.numbers.items) past) in
        let wrong : true ≡ false = sym some ∙ none in cc)

-- the event of the registration, by the table
abbrev pub child_event : Job → ℕ → ℕ → ℕ → ℕ → ℕ → Mode → TaskEvent
child_event job t p n c a mode = of (task_at job.graph c).joins_now
  where
    of : Bool → TaskEvent
    of true = child_now t p n c a
    of false = child t p n c a mode

-- what the turn answers
pub child_so : {steps : ℕ} (job : Job) (machine : Machine) (m : Moment) (t c p n a : ℕ) (mode : Mode)
    (state : TaskState) → IsNextIn steps job machine t (registers c) → IsMachineAt job m machine
    → slice_get machine.tasks.items c ≡ Some state
    → (registration_at job c (length state.numbers.items)).phaser ≡ p
    → (registration_at job c (length state.numbers.items)).mode ≡ mode
    → number_on m t p ≡ n → greatest_used (m.history p) + 1 ≡ a
    → turn_in steps job machine m t
    ≡ accepted_answer (child_event job t p n c a mode)
    (child_refusal job c (m.history p) n a mode)
child_so job machine m t c p n a mode state next at found phaser in_mode numbered new =
    (child_at job machine m t c state next at found).answer ∙ by (task_at job.graph c).joins_now refl
  where
    r : Registration
    r = registration_at job c (length state.numbers.items)

    by : (b : Bool) → (task_at job.graph c).joins_now ≡ b
        → register_answer m t c r (task_at job.graph c).joins_now
        ≡ accepted_answer (child_event job t p n c a mode)
        (child_refusal job c (m.history p) n a mode)
    by true now =
        let there : register_answer m t c r (task_at job.graph c).joins_now
        ≡ register_answer m t c r true = ap (register_answer m t c r) now in
        let here : accepted_answer (child_event job t p n c a mode)
        (child_refusal job c (m.history p) n a mode)
        ≡ accepted_answer (child_now t p n c a) (register_now_refusal (m.history p) n a) =
        rw now refl in
        there
        ∙ ap (λ q. accepted_answer (child_now t q (number_on m t q) c (greatest_used (m.history q) + 1))
        (register_now_refusal (m.history q) (number_on m t q) (greatest_used (m.history q) + 1)))
        phaser
        ∙ ap (λ k. accepted_answer (child_now t p k c (greatest_used (m.history p) + 1))
        (register_now_refusal (m.history p) k (greatest_used (m.history p) + 1))) numbered
        ∙ ap (λ b. accepted_answer (child_now t p n c b) (register_now_refusal (m.history p) n b))
        new ∙ sym here
    by false now =
        let there : register_answer m t c r (task_at job.graph c).joins_now
        ≡ register_answer m t c r false = ap (register_answer m t c r) now in
        let here : accepted_answer (child_event job t p n c a mode)
        (child_refusal job c (m.history p) n a mode)
        ≡ accepted_answer (child t p n c a mode) (register_refusal (m.history p) n a mode) =
        rw now refl in
        there
        ∙ ap (λ q. accepted_answer (child t q (number_on m t q) c (greatest_used (m.history q) + 1) r.mode)
        (register_refusal (m.history q) (number_on m t q) (greatest_used (m.history q) + 1) r.mode)) phaser
        ∙ ap (λ k. accepted_answer (child t p k c (greatest_used (m.history p) + 1) r.mode)
        (register_refusal (m.history p) k (greatest_used (m.history p) + 1) r.mode)) numbered
        ∙ ap (λ b. accepted_answer (child t p n c b r.mode)
        (register_refusal (m.history p) n b r.mode)) new
        ∙ ap (λ o. accepted_answer (child t p n c a o) (register_refusal (m.history p) n a o)) in_mode
        ∙ sym here

pub refused_child : {steps : ℕ} (job : Job) (machine : Machine) (t c p n a : ℕ) (mode : Mode)
    (state : TaskState) (e : RegisterRefusal) → IsNextIn steps job machine t (registers c)
    → slice_get machine.tasks.items c ≡ Some state
    → (registration_at job c (length state.numbers.items)).phaser ≡ p
    → (registration_at job c (length state.numbers.items)).mode ≡ mode
    → ((m : Moment) → IsMachineAt job m machine → number_on m t p ≡ n)
    → ((m : Moment) → IsMachineAt job m machine → greatest_used (m.history p) + 1 ≡ a)
    → ((m : Moment) → IsMachineAt job m machine
    → child_refusal job c (m.history p) n a mode ≡ Some e) → ⊥
refused_child job machine t c p n a mode state e next found phaser in_mode numbered new refused =
    let m = next.some.0 in
    let at = next.some.1 in
    next.answered m at (child_so job machine m t c p n a mode state next at found phaser in_mode
    (numbered m at) (new m at)
    ∙ ap (accepted_answer (child_event job t p n c a mode)) (refused m at))

abbrev pub with_numbers : TaskState → SmallVec ℕ → TaskState
with_numbers state numbers = record state { numbers = numbers }

-- another task's number
number_same : (p q c u a : ℕ) (m : Moment) → eqb u c ≡ false
    → with_at p (with_at c (Some a) (m.number p)) m.number q u ≡ m.number q u
number_same p q c u a m e = by (eqb q p) refl
  where
    by : (b : Bool) → eqb q p ≡ b
        → with_at p (with_at c (Some a) (m.number p)) m.number q u ≡ m.number q u
    by true f =
        let same : q ≡ p = eqb-true q p f in
        ap (λ b. (cond b (with_at c (Some a) (m.number p)) (m.number q)) u) f
        ∙ ap (λ b. cond b (Some a) (m.number p u)) e ∙ ap (λ x. m.number x u) (sym same)
    by false f = ap (λ b. (cond b (with_at c (Some a) (m.number p)) (m.number q)) u) f

-- an event that registers a child is no wait
child_quiet : (job : Job) (event : TaskEvent) (c : ℕ) → child_of event ≡ Some c
    → NoSinkWaits job event
child_quiet job (sample t j p n vs) c e = absurd (cc)
child_quiet job (signal t j p n vs) c e = absurd (cc)
child_quiet job (first_wait t k p n outcomes) c e = absurd (cc)
child_quiet job (exchange_wait t p n outcome) c e = absurd (cc)
child_quiet job (leave t p n) c e = absurd (cc)
child_quiet job (child t p n d a mode) c e = tt
child_quiet job (child_now t p n d a) c e = tt

-- an event that registers a child leaves its own task's place
own_same : (job : Job) (m : Moment) (event : TaskEvent) (at : TaskPlace) (c : ℕ)
    → child_of event ≡ Some c → own_place job m event at ≡ at
own_same job m (sample t j p n vs) at c e = absurd (cc)
own_same job m (signal t j p n vs) at c e = absurd (cc)
own_same job m (first_wait t k p n outcomes) at c e = absurd (cc)
own_same job m (exchange_wait t p n outcome) at c e = absurd (cc)
own_same job m (leave t p n) at c e = absurd (cc)
own_same job m (child t p n d a mode) at c e = refl
own_same job m (child_now t p n d a) at c e = refl

-- a registration that does not join now leaves where each sink begins, as no child has taken or
-- been given a start
begins_plain : (job : Job) (m : Moment) (t p n c a : ℕ) (mode : Mode) (u : ℕ)
    → (task_at job.graph c).joins_now ≡ false
    → begins_with job m c (done_of (m.history p)) u
    ≡ sink_begins_at job (after_turn job (child t p n c a mode) m) u
begins_plain job m t p n c a mode u now = by (eqb u c) refl
  where
    plain : begins_with job m c (done_of (m.history p)) u ≡ sink_begins_at job m u
    plain = rw now refl

    by : (b : Bool) → eqb u c ≡ b
        → begins_with job m c (done_of (m.history p)) u
        ≡ sink_begins_at job (after_turn job (child t p n c a mode) m) u
    by true e =
        let its : (task_at job.graph u).joins_now ≡ false =
        ap (λ x. (task_at job.graph x).joins_now) (eqb-true u c e) ∙ now in
        let was : sink_begins_at job m u ≡ None = rw its refl in
        let is : sink_begins_at job (after_turn job (child t p n c a mode) m) u ≡ None = rw its refl in
        plain ∙ was ∙ sym is
    by false e =
        let number : (after_turn job (child t p n c a mode) m).number
        (input_at (task_at job.graph u) 0) u ≡ m.number (input_at (task_at job.graph u) 0) u =
        number_same p (input_at (task_at job.graph u) 0) c u a m e in
        plain
        ∙ ap (λ o. cond (task_at job.graph u).joins_now (option_map (λ x. m.offset u) o) None)
        (sym number)

-- a sink that joins now begins at the first phase that is not complete
begins_now : (job : Job) (m : Moment) (t p n c a u : ℕ) → (task_at job.graph c).joins_now ≡ true
    → input_at (task_at job.graph c) 0 ≡ p
    → begins_with job m c (done_of (m.history p)) u
    ≡ sink_begins_at job (after_turn job (child_now t p n c a) m) u
begins_now job m t p n c a u now input = by (eqb u c) refl
  where
    after : Moment
    after = after_turn job (child_now t p n c a) m

    d : ℕ
    d = done_of (m.history p)

    by : (b : Bool) → eqb u c ≡ b → begins_with job m c d u ≡ sink_begins_at job after u
    by true e =
        let same : u ≡ c = eqb-true u c e in
        let its : (task_at job.graph u).joins_now ≡ true =
        ap (λ x. (task_at job.graph x).joins_now) same ∙ now in
        let on : input_at (task_at job.graph u) 0 ≡ p =
        ap (λ x. input_at (task_at job.graph x) 0) same ∙ input in
        let number : after.number (input_at (task_at job.graph u) 0) u ≡ Some a =
        ap (λ q. after.number q u) on
        ∙ ap (λ b. (cond b (with_at c (Some a) (m.number p)) (m.number p)) u) (eq-eqb p p refl)
        ∙ ap (λ b. cond b (Some a) (m.number p u)) e in
        let offset : after.offset u ≡ d = ap (λ b. cond b d (m.offset u)) e in
        let old : begins_with job m c d u ≡ Some d = rw now (rw e refl) in
        let new : sink_begins_at job after u ≡ Some d =
        ap (λ b. cond b (option_map (λ x. after.offset u)
        (after.number (input_at (task_at job.graph u) 0) u)) None) its
        ∙ ap (option_map (λ x. after.offset u)) number ∙ ap (λ x. Some x) offset in
        old ∙ sym new
    by false e =
        let number : after.number (input_at (task_at job.graph u) 0) u
        ≡ m.number (input_at (task_at job.graph u) 0) u =
        number_same p (input_at (task_at job.graph u) 0) c u a m e in
        let offset : after.offset u ≡ m.offset u = ap (λ b. cond b d (m.offset u)) e in
        let old : begins_with job m c d u ≡ sink_begins_at job m u = rw now (rw e refl) in
        old
        ∙ ap (λ o. cond (task_at job.graph u).joins_now (option_map (λ x. m.offset u) o) None)
        (sym number)
        ∙ ap (λ y. cond (task_at job.graph u).joins_now
        (option_map (λ x. y) (after.number (input_at (task_at job.graph u) 0) u)) None) (sym offset)

-- the registrations of a sink that joins now are on its input
now_input : (job : Job) (c i : ℕ) → IsGraph job.graph → c < length job.graph.tasks
    → (task_at job.graph c).joins_now ≡ true → i < length (registrations_at job c)
    → input_at (task_at job.graph c) 0 ≡ (registration_at job c i).phaser
now_input job c i is there now lt =
    let task = task_at job.graph c in
    let line = is.tasks c there in
    let sink = (line.now now).0 in
    let ends : (length task.inputs ≡ 1) × (length task.outputs ≡ 0) = rw sink at line.ends in
    let rs = registrations_at job c in
    let phasers = registrations-phasers job.graph c task line in
    let long : length rs ≡ length (task.inputs ++ task.outputs) =
    sym (length-map rs (λ r. r.phaser)) ∙ ap length phasers in
    let both : length (task.inputs ++ task.outputs) ≡ length task.inputs + length task.outputs =
    length-append task.inputs task.outputs in
    let one : length task.inputs ≡ 1 = ends.0 in
    let none : length task.outputs ≡ 0 = ends.1 in
    let first : i ≡ 0 = omega arith in
    sym (get_or_append_left task.inputs task.outputs 0 0 (omega arith))
    ∙ ap (λ k. get_or (task.inputs ++ task.outputs) k 0) (sym first)
    ∙ ap (λ ps. get_or ps i 0) (sym phasers)
    ∙ get_or-map (λ r. r.phaser) rs i no_registration 0 lt

-- a parent stays where it is
parent_stays : {steps most owes : ℕ} (job : Job) (m : Moment) (t c : ℕ) (event : TaskEvent) (at : TaskPlace)
    → MakesEvent steps most job m t event → child_of event ≡ Some c → StandsUpTo owes job m t at
    → StandsUpTo owes job (after_turn job event m) t at
parent_stays {steps} {most} {owes} job m t c event at made of_child stands =
    subst (λ place. StandsUpTo owes job (after_turn job event m) t place) (own_same job m event at c of_child)
    (parent_follows job m t c event at made.next made.own of_child stands)

-- what the table says of the event of a child's registration
record ChildEvent (job : Job) (m : Moment) (t p n c a : ℕ) (mode : Mode) (event : TaskEvent) : Type
    0 where
  of_child : child_of event ≡ Some c
  number : number_given event ≡ Some a
  on : phaser_of event ≡ p
  told : told_event job m event ≡ answers.Moved
  history : (after_turn job event m).history
      ≡ with_at p (add_event job c n a mode ∷ m.history p) m.history
  taken : (u k : ℕ) → (after_turn job event m).taken u k ≡ m.taken u k
  begins : (u : ℕ) → begins_with job m c (done_of (m.history p)) u
      ≡ sink_begins_at job (after_turn job event m) u

-- of a child whose line has this input
child_event_is : (job : Job) (m : Moment) (t p n c a : ℕ) (mode : Mode)
    → ((task_at job.graph c).joins_now ≡ true → input_at (task_at job.graph c) 0 ≡ p)
    → ChildEvent job m t p n c a mode (child_event job t p n c a mode)
child_event_is job m t p n c a mode input = by (task_at job.graph c).joins_now refl
  where
    Is : TaskEvent → Type 0
    Is event = ChildEvent job m t p n c a mode event

    by : (b : Bool) → (task_at job.graph c).joins_now ≡ b → Is (child_event job t p n c a mode)
    by true now =
        let same : child_event job t p n c a mode ≡ child_now t p n c a = rw now refl in
        subst Is (sym same) record {
          of_child = refl;
          number = refl;
          on = refl;
          told = refl;
          history = rw now refl;
          taken = λ u k. refl;
          begins = λ u. begins_now job m t p n c a u now (input now);
        }
    by false now =
        let same : child_event job t p n c a mode ≡ child t p n c a mode = rw now refl in
        subst Is (sym same) record {
          of_child = refl;
          number = refl;
          on = refl;
          told = refl;
          history = rw now refl;
          taken = λ u k. refl;
          begins = λ u. begins_plain job m t p n c a mode u now;
        }

-- lines that keep as much are as many
many_lines : (old new : List Lines)
    → map (kept_behind none_given) new ≡ map (kept_behind none_given) old
    → length new ≡ length old
many_lines old new same =
    sym (length-map new (kept_behind none_given)) ∙ ap length same
    ∙ length-map old (kept_behind none_given)

-- the machine after it
pub child_turn : {steps : ℕ} (job : Job) (old new : Machine) (t c p n a : ℕ) (mode : Mode)
    (state : TaskState) (numbers : SmallVec ℕ) → IsNextIn steps job old t (registers c)
    → slice_get old.tasks.items c ≡ Some state
    → (registration_at job c (length state.numbers.items)).phaser ≡ p
    → (registration_at job c (length state.numbers.items)).mode ≡ mode
    → ((m : Moment) → IsMachineAt job m old → number_on m t p ≡ n)
    → ((m : Moment) → IsMachineAt job m old → greatest_used (m.history p) + 1 ≡ a)
    → ((m : Moment) → IsMachineAt job m old → child_refusal job c (m.history p) n a mode ≡ None)
    → ((m : Moment) → IsMachineAt job m old
    → HasCores job (with_at p (add_event job c n a mode ∷ m.history p) m.history) new.cores.items)
    → numbers.items ≡ state.numbers.items ++ a ∷ [] → numbers.capacity ≡ state.numbers.capacity
    → new.tasks.items ≡ set old.tasks.items c (with_numbers state numbers)
    → ((m : Moment) → IsMachineAt job m old
    → LineHasBegun job m c (done_of (m.history p)) old.lines.items new.lines.items)
    → HadTurn steps job old new t (Event p Moved)
child_turn {steps} job old new t c p n a mode state numbers next found phaser in_mode numbered fresh accepted cores items capacity tasks lines =
    record {
      shows = λ m at. subst (λ x. MadeShows job m t x (Event p Moved)) (sym (answer m at))
          ((it m at).on, (it m at).told);
      after = λ m at none. after m at;
      lines = λ given m at none kept.
          (let begun = lines m at in
          subst (λ x. KeepsLines job given (after_answer job x m) new.lines.items)
          (sym (answer m at)) record {
            values = begun.values given ∙ kept.values
                ∙ lines_stay job m t event next.sized at.graph at.reached (answer m at)
                (child_quiet job event c (it m at).of_child);
            starts = begun.starts kept.starts
                ∙ map_same (begins_with job m c (done_of (m.history p)))
                (sink_begins_at job (after_turn job event m)) (sinks_of job) (it m at).begins;
          });
      own = (lines next.some.0 next.some.1).own;
      mosts = mosts_set old new c state (with_numbers state numbers) found tasks refl;
    }
  where
    event : TaskEvent
    event = child_event job t p n c a mode

    it : (m : Moment) → IsMachineAt job m old → ChildEvent job m t p n c a mode event
    it m at =
        child_event_is job m t p n c a mode
        (λ now. now_input job c (length state.numbers.items) at.graph
        (child_at job old m t c state next at found).child_there now
        (child_at job old m t c state next at found).few ∙ phaser)

    answer : (m : Moment) → IsMachineAt job m old → turn_in steps job old m t ≡ makes event
    answer m at =
        child_so job old m t c p n a mode state next at found phaser in_mode (numbered m at) (fresh m at)
        ∙ ap (accepted_answer event) (accepted m at)

    made : (m : Moment) → IsMachineAt job m old → MakesEvent steps (most_in old t) job m t event
    made m at = makes_event job m t event next.sized at.graph at.reached (answer m at)

    here : (m : Moment) → IsMachineAt job m old
        → IsTaskAt job (after_turn job event m) c (with_numbers state numbers)
    here m at =
        let its = at.tasks c state found in
        let e = it m at in
        record {
          stands = subst (λ ns. StandsUpTo state.most job (after_turn job event m) c
              (record (place_in_state state) { numbers = ns })) (sym items)
              (child_follows job m c a event (place_in_state state) at.graph at.reached.ran (made m at).next
              (made m at).order e.of_child e.number its.stands);
          room = (let room = its.room in omega arith);
          filter = subst (HasFilter (task_at job.graph c) state.filter) (sym (e.taken c 0)) its.filter;
          most = its.most;
          made_room = its.made_room;
          made_by = its.made_by;
          made_none = its.made_none;
          sink = its.sink;
        }

    other : (m : Moment) (at : IsMachineAt job m old) (u : ℕ) (s : TaskState)
        → u < length job.graph.tasks → u ≢ c → slice_get old.tasks.items u ≡ Some s
        → IsTaskAt job (after_turn job event m) u s
    other m at u s there apart read = by (eqb u t) refl
      where
        its : IsTaskAt job m u s
        its = at.tasks u s read

        e : ChildEvent job m t p n c a mode event
        e = it m at

        some_is : (x y : ℕ) → Some x ≡ Some y → x ≡ y
        some_is x y e = cc

        by : (b : Bool) → eqb u t ≡ b → IsTaskAt job (after_turn job event m) u s
        by true f =
            let same : u ≡ t = eqb-true u t f in
            record {
              stands = subst (λ v. StandsUpTo s.most job (after_turn job event m) v (place_in_state s)) (sym same)
                  (parent_stays job m t c event (place_in_state s) (made m at) e.of_child
                  (subst (λ v. StandsUpTo s.most job m v (place_in_state s)) same its.stands));
              room = its.room;
              most = its.most;
              filter = subst (HasFilter (task_at job.graph u) s.filter) (sym (e.taken u 0)) its.filter;
              made_room = its.made_room;
              made_by = its.made_by;
              made_none = its.made_none;
              sink = its.sink;
            }
        by false f =
            let away : u ≢ t = λ same. (
            let yes : eqb u t ≡ true = ap (λ v. eqb v t) same ∙ eq-eqb t t refl in
            let wrong : true ≡ false = sym yes ∙ f in cc) in
            keeps_other job m t u event s next.sized at.graph at.reached (answer m at) there away
            (λ same. apart (sym (some_is c u (sym e.of_child ∙ same)))) its

    after : (m : Moment) → IsMachineAt job m old
        → IsMachineAt job (after_answer job (turn_in steps job old m t) m) new
    after m at =
        let state_c = with_numbers state numbers in
        let e = it m at in
        let long = length-set old.tasks.items c state_c in
        let many : length new.tasks.items ≡ length (set old.tasks.items c state_c) = ap length tasks in
        let before = at.tasks_many in
        let below = (child_at job old m t c state next at found).child_there in
        let all = set_state job (after_turn job event m) old.tasks.items c state_c at.tasks_many below
        (here m at) (λ u s there apart read. other m at u s there apart read) in
        let begun = lines m at in
        subst (λ x. IsMachineAt job (after_answer job x m) new) (sym (answer m at)) record {
          graph = at.graph;
          apart = at.apart;
          reached = subst (λ x. IsReachable job (after_answer job x m)) (answer m at)
              (next.stays m at);
          few = subst (λ x. UsesFew job (after_answer job x m)) (answer m at) (next.few m at);
          cores = subst (λ hs. HasCores job hs new.cores.items) (sym e.history) (cores m at);
          tasks_many = omega arith;
          tasks = λ u s read. all u s (subst (λ xs. slice_get xs u ≡ Some s) tasks read);
          lines_many = many_lines old.lines.items new.lines.items (begun.values none_given)
              ∙ at.lines_many;
        }

-- a fresh number
pub next_is : (g a : ℕ) → next_after (Some g) ≡ Some a → g + 1 ≡ a
next_is g a e = by (nat_lt g (2 ^ 64 - 1)) e
  where
    some_is : (x y : ℕ) → Some x ≡ Some y → x ≡ y
    some_is x y f = cc

    by : (b : Bool) → cond b (Some (g + 1)) None ≡ Some a → g + 1 ≡ a
    by true f = some_is (g + 1) a f
    by false f = absurd (cc)

-- ---- the parent's number

-- a task that has no registration on a phaser has no number there
pub no_number : (job : Job) (m : Moment) (t p : ℕ) → IsGraph job.graph → HasRun job m
    → t < length job.graph.tasks
    → ((k : ℕ) → k < length (registrations_at job t) → (registration_at job t k).phaser ≢ p)
    → number_on m t p ≡ 0
no_number job m t p is ran there never = by (m.number p t) refl
  where
    by : (o : Option ℕ) → m.number p t ≡ o → number_on m t p ≡ 0
    by None e = ap (λ o. unwrap_or o 0) e
    by (Some n) e =
        let line = is.tasks t there in
        let phasers = registrations-phasers job.graph t (task_at job.graph t) line in
        let at = on_ends job.graph t (task_at job.graph t) p line ((ran.tasks t there).lines p n e) in
        let rs = registrations_at job t in
        let long : length rs ≡ length ((task_at job.graph t).inputs ++ (task_at job.graph t).outputs) =
        sym (length-map rs (λ r. r.phaser)) ∙ ap length phasers in
        let lt : at.0 < length rs = omega arith in
        let here : (get_or rs at.0 no_registration).phaser ≡ p =
        sym (get_or-map (λ r. r.phaser) rs at.0 no_registration 0 lt)
        ∙ ap (λ ps. get_or ps at.0 0) phasers ∙ at.2 in
        absurd (never at.0 lt here)

pub number_is : (job : Job) (machine : Machine) (m : Moment) (t p k : ℕ) (state : TaskState)
    (numbers : List ℕ) → IsMachineAt job m machine → is_live job m t ≡ true
    → slice_get machine.tasks.items t ≡ Some state → numbers ≡ state.numbers.items
    → k < length (registrations_at job t) → (registration_at job t k).phaser ≡ p
    → (k < length numbers) × (number_on m t p ≡ get_or numbers k 0)
number_is job machine m t p k state numbers at live found same few phaser =
    let it = (at.tasks t state found).stands in
    let all = all_numbered job m t (place_in_state state) it live in
    let long : length numbers ≡ length state.numbers.items = ap length same in
    let lt : k < length state.numbers.items = omega arith in (
      omega arith,
      ap (λ q. number_on m t q) (sym phaser)
          ∙ ap (λ o. unwrap_or o 0) (number-at job m t k (place_in_state state) it lt)
          ∙ sym (ap (λ ns. get_or ns k 0) same),
    )

pub room_for_child : {steps : ℕ} (job : Job) (machine : Machine) (m : Moment) (t c : ℕ) (state : TaskState)
    → IsNextIn steps job machine t (registers c) → IsMachineAt job m machine
    → slice_get machine.tasks.items c ≡ Some state → length (registrations_at job c) ≤ 9
    → length state.numbers.items + 1 ≤ state.numbers.capacity
room_for_child job machine m t c state next at found few =
    let less = (child_at job machine m t c state next at found).few in
    omega (arith, (at.tasks c state found).room)
