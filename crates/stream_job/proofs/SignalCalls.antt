-- What a turn answers that signals, and the machine after it.
use Rattle.std.proofs.Common.{◌≡◌, ◌≢◌, ℕ, ℤ, List, ◌<◌, cond, ◌∷◌, Option, Some, None, length, slice_get, set, map, refl, sym, ap, subst, ◌∙◌}
use Rattle.std.specs.Prelude.{Result, Ok, Err}
use Rattle.std.specs.List.{position_from}
use Rattle.phase_base.specs.Limits.{Limits}
use Rattle.phase_accum.specs.declared.single.Single.{Single}
use Rattle.phase_history.specs.declared.event.Event.TheVariants.{Signalled}
use Rattle.phase_history.specs.declared.refusal.SignalRefusal.{SignalRefusal}
use Rattle.phase_history.specs.declared.refusal.SignalRefusal.TheVariants as refusals
use Rattle.phase_history.specs.Histories.{History, signal_phase}
use Rattle.phase_history.specs.Refusals.{signal_refusal}
use Rattle.phase_history.specs.Replies.{signal_reply, refused_or}
use Rattle.graph_base.specs.declared.place.Place.TheVariants as place
use Rattle.graph_base.specs.Graphs.{task_at, phaser_at}
use Rattle.stream_lists.specs.Jobs.{Job}
use Rattle.stream_lists.specs.Ranges.{is_out_of_range, are_made}
use Rattle.graph_runs.specs.Moments.{one, Moment, limits_at}
use Rattle.graph_runs.specs.Turned.{with_at}
use Rattle.graph_runs.specs.Nexts.{Next, number_on}
use Rattle.graph_runs.specs.TaskEvents.{TaskEvent, after_turn}
use Rattle.graph_runs.specs.Answers as answers
use Rattle.graph_runs.specs.Answers.{Answer, makes, is_blocked, is_refused, after_answer, signal_answer, signal_turn, call_signal, output_at, told_event, answer_up_to, turn_up_to, values_up_to, samples_up_to}
use Rattle.graph_runs.specs.TaskPlaces.{child_of}
use Rattle.stream_job.specs.Blocking.{called_on}
use Rattle.stream_job.specs.Stepping.{IsNextIn}
use Rattle.stream_job.specs.Machines.{IsMachineAt, HasCores, KeepsLines}
use Rattle.stream_job.specs.Places.{IsTaskAt}
use Rattle.stream_job.specs.Turning.{HadTurn, HadTurnBy, MadeShows, phaser_of, turn_in}
use Rattle.stream_job.specs.declared.machine.Machine.{Machine}
use Rattle.stream_job.specs.declared.made.Made.{Made}
use Rattle.stream_job.specs.declared.made.Made.TheVariants.{Event, Blocked}
use Rattle.stream_job.specs.declared.task_state.TaskState.{TaskState}
use Rattle.stream_job.specs.declared.turned.Turned.TheVariants.{Moved}
use Rattle.stream_job.proofs.Events.{after_own, unchanged}
use Rattle.stream_job.proofs.Mosts.{mosts_same, mosts_set}
use Rattle.stream_job.proofs.LinesAfter.{quiet_lines, same_lines, same_rooms}
use Rattle.stream_job.proofs.SinksKeep.{NoSinkWaits}

-- the same turn by other sizes
pub had_same : {steps most steps' most' : ℕ} (job : Job) (old new : Machine) (t : ℕ) (it : Made)
    → ((m : Moment) → IsMachineAt job m old
    → turn_up_to steps' most' job m t ≡ turn_up_to steps most job m t)
    → HadTurnBy steps most job old new t it → HadTurnBy steps' most' job old new t it
had_same job old new t it same had = record {
  shows = λ m at. subst (λ a. MadeShows job m t a it) (sym (same m at)) (had.shows m at);
  after = λ m at none. subst (λ a. IsMachineAt job (after_answer job a m) new) (sym (same m at))
      (had.after m at none);
  lines = λ given m at none kept.
      subst (λ a. KeepsLines job given (after_answer job a m) new.lines.items) (sym (same m at))
      (had.lines given m at none kept);
  own = had.own;
  mosts = had.mosts;
}

-- ---- a call that the phaser would not take now

pub blocked_turn : {steps : ℕ} (job : Job) (old new : Machine) (t p : ℕ) (next : Next)
    → IsNextIn steps job old t next → called_on job t next ≡ p
    → ((m : Moment) → IsMachineAt job m old → turn_in steps job old m t ≡ is_blocked)
    → ((m : Moment) → IsMachineAt job m old → IsMachineAt job m new) → new.tasks ≡ old.tasks
    → new.lines ≡ old.lines → HadTurn steps job old new t (Blocked p)
blocked_turn job old new t p next is called answer same tasks lines = record {
  shows = λ m at.
      subst (λ a. MadeShows job m t a (Blocked p)) (sym (answer m at))
      (ap (called_on job t) (is.is m at) ∙ called);
  after = λ m at none.
      subst (λ a. IsMachineAt job (after_answer job a m) new) (sym (answer m at)) (same m at);
  lines = λ given m at none kept.
      subst (λ a. KeepsLines job given (after_answer job a m) new.lines.items) (sym (answer m at))
      (same_lines job given m old new lines kept);
  own = same_rooms old new lines;
  mosts = mosts_same old new tasks;
}

-- ---- what the turn answers

-- the refusal of a signal of these values
abbrev pub refusal_of : Job → Moment → ℕ → ℕ → List ℤ → Option SignalRefusal
refusal_of job m p n vs =
    signal_refusal (limits_at job p) (m.history p) n (map one vs) (phaser_at job.graph p).single

-- the reply
abbrev pub reply_of : Job → Moment → ℕ → ℕ → List ℤ → Result ℕ SignalRefusal
reply_of job m p n vs =
    signal_reply (limits_at job p) (m.history p) n (map one vs) (phaser_at job.graph p).single

-- values of which none is out of range are signalled
pub goes_on : (job : Job) (m : Moment) (t j : ℕ) (vs : List ℤ) (event : TaskEvent)
    → position_from is_out_of_range (length (m.put t j)) vs ≡ None
    → signal_turn job m t j vs event ≡ call_signal job m t (output_at job t j) vs event
goes_on job m t j vs event none = rw none refl

-- where one is, none of them is
pub stops : (job : Job) (m : Moment) (t j step : ℕ) (vs : List ℤ) (event : TaskEvent)
    → position_from is_out_of_range (length (m.put t j)) vs ≡ Some step
    → signal_turn job m t j vs event
    ≡ cond (are_made (task_at job.graph t).kind j) (answers.has_made (place.Task t, step)) is_refused
stops job m t j step vs event found = rw found refl

-- as the number that the code has of the phaser
pub renumbered : (job : Job) (m : Moment) (t j number p : ℕ) (vs : List ℤ)
    (event : ℕ → ℕ → TaskEvent) → p ≡ output_at job t j
    → number_on m t (output_at job t j) ≡ number
    → call_signal job m t (output_at job t j) vs
    (event (output_at job t j) (number_on m t (output_at job t j)))
    ≡ signal_answer (event p number) (refusal_of job m p number vs)
renumbered job m t j number p vs event phaser same =
    let q = output_at job t j in
    ap (λ n. signal_answer (event q n) (refusal_of job m q n vs)) same
    ∙ ap (λ r. signal_answer (event r number) (refusal_of job m r number vs)) (sym phaser)

pub ok_is : (limits : Limits) (h : History) (number : ℕ) (lists : List (List ℤ))
    (single : Option Single) (phase : ℕ) → signal_reply limits h number lists single ≡ Ok phase
    → signal_refusal limits h number lists single ≡ None
ok_is limits h number lists single phase e =
    by (signal_refusal limits h number lists single) refl e
  where
    by : (o : Option SignalRefusal) → signal_refusal limits h number lists single ≡ o
        → refused_or o (signal_phase h number) ≡ Ok phase
        → signal_refusal limits h number lists single ≡ None
    by None is e = is
    by (Some r) is e = absurd (cc)

pub err_is : (limits : Limits) (h : History) (number : ℕ) (lists : List (List ℤ))
    (single : Option Single) (r : SignalRefusal)
    → signal_reply limits h number lists single ≡ Err r
    → signal_refusal limits h number lists single ≡ Some r
err_is limits h number lists single r e =
    by (signal_refusal limits h number lists single) refl e
  where
    refusal_in : Result ℕ SignalRefusal → SignalRefusal
    refusal_in (Ok a) = r
    refusal_in (Err q) = q

    same : (a b : Result ℕ SignalRefusal) → a ≡ b → refusal_in a ≡ refusal_in b
    same a b e = ap refusal_in e

    by : (o : Option SignalRefusal) → signal_refusal limits h number lists single ≡ o
        → refused_or o (signal_phase h number) ≡ Err r
        → signal_refusal limits h number lists single ≡ Some r
    by None is e = absurd (cc)
    by (Some q) is e = is ∙ ap (λ x. Some x) (same (Err q) (Err r) e)

-- a refusal that a turn may get
pub blocks : (event : TaskEvent) (r : SignalRefusal) → signal_answer event (Some r) ≢ is_refused
    → signal_answer event (Some r) ≡ is_blocked
blocks event refusals.NoTask never = absurd (never refl)
blocks event refusals.NoSignal never = absurd (never refl)
blocks event refusals.NotSingle never = absurd (never refl)
blocks event refusals.SignalTwice never = absurd (never refl)
blocks event refusals.Spent never = refl
blocks event refusals.Ahead never = refl
blocks event refusals.SingleDiffers never = absurd (never refl)
blocks event refusals.PhaseFull never = absurd (never refl)
blocks event refusals.BadBlock never = absurd (never refl)

-- what a turn answers that signals these values: the phaser's word
abbrev pub SignalsBy : ℕ → Job → Machine → ℕ → ℕ → ℕ → List ℤ → TaskEvent → Type 0
SignalsBy steps job machine t number p vs event = (m : Moment) → IsMachineAt job m machine
    → turn_in steps job machine m t ≡ signal_answer event (refusal_of job m p number vs)

-- a turn whose signal was refused
pub refused_turn : {steps : ℕ} (job : Job) (old new : Machine) (t number p : ℕ) (vs : List ℤ) (next : Next)
    (event : TaskEvent) (r : SignalRefusal) → IsNextIn steps job old t next → called_on job t next ≡ p
    → SignalsBy steps job old t number p vs event
    → ((m : Moment) → IsMachineAt job m old → reply_of job m p number vs ≡ Err r)
    → ((m : Moment) → IsMachineAt job m old
    → HasCores job (with_at p (m.history p) m.history) new.cores.items)
    → new.tasks ≡ old.tasks → new.lines ≡ old.lines → HadTurn steps job old new t (Blocked p)
refused_turn {steps} job old new t number p vs next event r is called answers reply cores tasks lines =
    blocked_turn job old new t p next is called answer
    (λ m at. unchanged job m old new p at (cores m at) tasks lines) tasks lines
  where
    refused : (m : Moment) → IsMachineAt job m old
        → turn_in steps job old m t ≡ signal_answer event (Some r)
    refused m at =
        answers m at
        ∙ ap (signal_answer event) (err_is (limits_at job p) (m.history p) number (map one vs)
        (phaser_at job.graph p).single r (reply m at))

    answer : (m : Moment) → IsMachineAt job m old → turn_in steps job old m t ≡ is_blocked
    answer m at = refused m at ∙ blocks event r (λ e. is.answered m at (refused m at ∙ e))

-- ---- the machine after an event

-- a turn whose event moved its task
pub moved_turn : {steps : ℕ} (job : Job) (old new : Machine) (t p : ℕ) (next : Next) (event : TaskEvent)
    (state left : TaskState) → IsNextIn steps job old t next
    → slice_get old.tasks.items t ≡ Some state → left.most ≡ state.most
    → t < length job.graph.tasks
    → child_of event ≡ None → NoSinkWaits job event → phaser_of event ≡ p
    → ((m : Moment) → told_event job m event ≡ answers.Moved)
    → ((m : Moment) → IsMachineAt job m old → turn_in steps job old m t ≡ makes event)
    → ((m : Moment) → IsMachineAt job m old → IsTaskAt job (after_turn job event m) t left)
    → ((m : Moment) → IsMachineAt job m old
    → HasCores job (after_turn job event m).history new.cores.items)
    → new.tasks.items ≡ set old.tasks.items t left → new.lines ≡ old.lines
    → HadTurn steps job old new t (Event p Moved)
moved_turn job old new t p next event state left is found most there none quiet phaser told answer stands cores tasks lines =
    record {
      shows = λ m at. subst (λ a. MadeShows job m t a (Event p Moved)) (sym (answer m at))
          (phaser, told m);
      after = λ m at good.
          after_own job m old new t event left is.sized at (answer m at) none there (is.stays m at)
          (is.few m at) (cores m at) tasks (stands m at) (ap (λ l. length l.items) lines);
      lines = λ given m at good.
          quiet_lines job given m old new t event is.sized at (answer m at) none quiet lines;
      own = same_rooms old new lines;
      mosts = mosts_set old new t state left found tasks most;
    }

-- the answer where the phaser accepts
pub accepted : (steps : ℕ) (job : Job) (old : Machine) (t number p phase : ℕ) (vs : List ℤ) (event : TaskEvent)
    → SignalsBy steps job old t number p vs event
    → ((m : Moment) → IsMachineAt job m old → reply_of job m p number vs ≡ Ok phase)
    → (m : Moment) → IsMachineAt job m old → turn_in steps job old m t ≡ makes event
accepted steps job old t number p phase vs event answers reply m at =
    answers m at
    ∙ ap (signal_answer event) (ok_is (limits_at job p) (m.history p) number (map one vs)
    (phaser_at job.graph p).single phase (reply m at))

-- the history of the phaser after it
abbrev pub SignalledCores : Job → Machine → Machine → ℕ → ℕ → List ℤ → Type 0
SignalledCores job old new number p vs = (m : Moment) → IsMachineAt job m old
    → HasCores job (with_at p (Signalled number (map one vs) (phaser_at job.graph p).single
    ∷ m.history p) m.history) new.cores.items
