-- What a task owes where its turn makes an event.
use Rattle.std.proofs.Common.{◌≡◌, ℕ, ◌+◌, ◌≤◌, Bool, true, false, ◌||◌, cond, Option, Some, None, length, refl}
use Rattle.std.specs.Prelude.{slice_range}
use Rattle.phase_history.specs.Histories.{greatest_used}
use Rattle.phase_history.specs.Phases.{stream_of}
use Rattle.phase_history.specs.Refusals.{register_refusal, register_now_refusal, drop_refusal}
use Rattle.graph_base.specs.declared.line.Kind.{Kind}
use Rattle.graph_base.specs.declared.line.Kind.TheVariants.{Source, Fir, Split, Decimate, Join, Peer, Sink}
use Rattle.graph_base.specs.declared.registration.Registration.{Registration}
use Rattle.graph_base.specs.Graphs.{task_at}
use Rattle.stream_lists.specs.Jobs.{Job}
use Rattle.graph_runs.specs.Moments.{Moment, input_at, value_at}
use Rattle.graph_runs.specs.TaskEvents.{TaskEvent, sample, signal, first_wait, exchange_wait, leave, child, child_now}
use Rattle.graph_runs.specs.NextBlocks.{block_up_to}
use Rattle.graph_runs.specs.Nexts.{is_not_live, registers, leaves, samples, signals, waits, exchanges, is_live, of_live, at_boundary, next_step, first_owed, first_due, first_missing, first_kept, is_cut, has_input_ended, waits_first, number_on}
use Rattle.graph_runs.specs.Answers.{makes, call_leave, call_register, register_answer, output_at, answer_up_to, turn_up_to, values_up_to, samples_up_to}
use Rattle.graph_runs.proofs.Signalling.{signalled}
use Rattle.graph_runs.proofs.Calling.{answered, answered_all, accepted}
use Rattle.graph_runs.proofs.Blocks.{answered_block}

-- what is owed where this event comes: nothing where steps begin, not more of them than are allowed;
-- the values that are signalled; the value on Y where a peer waits on E
abbrev pub OwesFor : ℕ → ℕ → Job → Moment → TaskEvent → Type 0
OwesFor steps most job m (sample t j p n vs) = first_owed job m t ≡ None
OwesFor steps most job m (signal t j p n vs) =
    (first_owed job m t ≡ Some j) × (values_up_to most job m t j ≡ vs)
    × (waits_first (task_at job.graph t).kind j (length (m.put t j)) (length (m.taken t 1)) ≡ false)
OwesFor steps most job m (first_wait t k p n outcomes) =
    (first_owed job m t ≡ None) × (length outcomes ≤ block_up_to steps job m t)
OwesFor steps most job m (exchange_wait t p n outcome) =
    (j : ℕ) × (first_owed job m t ≡ Some j)
    × (waits_first (task_at job.graph t).kind j (length (m.put t j)) (length (m.taken t 1)) ≡ true)
OwesFor steps most job m (leave t p n) = Unit {0}
OwesFor steps most job m (child t p n c a mode) = Unit {0}
OwesFor steps most job m (child_now t p n c a) = Unit {0}

owes_for : (steps most : ℕ) (job : Job) (m : Moment) (made event : TaskEvent) → made ≡ event
    → OwesFor steps most job m made → OwesFor steps most job m event
owes_for steps most job m made event same owes =
    rw same at owes

leave_owes : (steps most : ℕ) (job : Job) (m : Moment) (t : ℕ) (event : TaskEvent)
    → answer_up_to steps most job m t leaves ≡ makes event → OwesFor steps most job m event
leave_owes steps most job m t event e = by (first_kept job m t) e
  where
    by : (o : Option Registration) → call_leave m t o ≡ makes event → OwesFor steps most job m event
    by None e = absurd (cc)
    by (Some r) e =
        owes_for steps most job m (leave t r.phaser (number_on m t r.phaser)) event
        (accepted (leave t r.phaser (number_on m t r.phaser)) event
        (drop_refusal (m.history r.phaser) (number_on m t r.phaser)) e).1 tt

register_owes : (steps most : ℕ) (job : Job) (m : Moment) (t c : ℕ) (event : TaskEvent)
    → answer_up_to steps most job m t (registers c) ≡ makes event → OwesFor steps most job m event
register_owes steps most job m t c event e = by (first_missing job m c) e
  where
    by : (o : Option Registration) → call_register job m t c o ≡ makes event
        → OwesFor steps most job m event
    by None e = absurd (cc)
    by (Some r) e = of (task_at job.graph c).joins_now e
      where
        of : (b : Bool) → register_answer m t c r b ≡ makes event → OwesFor steps most job m event
        of true e =
            let n = number_on m t r.phaser in
            let a = greatest_used (m.history r.phaser) + 1 in
            owes_for steps most job m (child_now t r.phaser n c a) event
            (accepted (child_now t r.phaser n c a) event
            (register_now_refusal (m.history r.phaser) n a) e).1 tt
        of false e =
            let n = number_on m t r.phaser in
            let a = greatest_used (m.history r.phaser) + 1 in
            owes_for steps most job m (child t r.phaser n c a r.mode) event
            (accepted (child t r.phaser n c a r.mode) event
            (register_refusal (m.history r.phaser) n a r.mode) e).1 tt

sample_owes : (steps most : ℕ) (job : Job) (m : Moment) (t : ℕ) (event : TaskEvent) → first_owed job m t ≡ None
    → answer_up_to steps most job m t samples ≡ makes event → OwesFor steps most job m event
sample_owes steps most job m t event none e =
    let p = output_at job t 0 in
    let vs = samples_up_to steps job m t in
    let made = sample t 0 p (number_on m t p) vs in
    owes_for steps most job m made event (signalled job m t 0 vs made event e).2 none

wait_owes : (steps most : ℕ) (job : Job) (m : Moment) (t k : ℕ) (event : TaskEvent) → first_owed job m t ≡ None
    → answer_up_to steps most job m t (waits k) ≡ makes event → OwesFor steps most job m event
wait_owes steps most job m t k event none e =
    let p = input_at (task_at job.graph t) k in
    let made = first_wait t k p (number_on m t p) in
    let a = answered_all job m t p (block_up_to steps job m t) made event e in
    let outcomes = slice_range (stream_of (value_at job p) (m.history p)) a.phase
    (a.phase + a.count) in
    let b = answered_block job (m.history p) p (number_on m t p) (block_up_to steps job m t) a.phase a.count
    a.reply in
    owes_for steps most job m (made outcomes) event a.is (none, b.few)

step_owes : (steps most : ℕ) (job : Job) (m : Moment) (t : ℕ) (event : TaskEvent) → first_owed job m t ≡ None
    → (kind : Kind)
    → answer_up_to steps most job m t (next_step (task_at job.graph t) (m.begun t) kind) ≡ makes event
    → OwesFor steps most job m event
step_owes steps most job m t event none Source e = sample_owes steps most job m t event none e
step_owes steps most job m t event none Fir e = wait_owes steps most job m t _ event none e
step_owes steps most job m t event none Split e = wait_owes steps most job m t _ event none e
step_owes steps most job m t event none Decimate e = wait_owes steps most job m t _ event none e
step_owes steps most job m t event none Join e = wait_owes steps most job m t _ event none e
step_owes steps most job m t event none Peer e = wait_owes steps most job m t _ event none e
step_owes steps most job m t event none Sink e = wait_owes steps most job m t _ event none e

owing_owes : (steps most : ℕ) (job : Job) (m : Moment) (t j : ℕ) (event : TaskEvent)
    → first_owed job m t ≡ Some j
    → answer_up_to steps most job m t (of_live job m t (Some j)) ≡ makes event → OwesFor steps most job m event
owing_owes steps most job m t j event owes answer =
    by (waits_first (task_at job.graph t).kind j (length (m.put t j)) (length (m.taken t 1))) refl
    answer
  where
    by : (b : Bool)
        → waits_first (task_at job.graph t).kind j (length (m.put t j)) (length (m.taken t 1)) ≡ b
        → answer_up_to steps most job m t (cond b exchanges (signals j)) ≡ makes event → OwesFor steps most job m event
    by true first e =
        let p = input_at (task_at job.graph t) 1 in
        let a = answered job m t p (exchange_wait t p (number_on m t p)) event e in
        owes_for steps most job m (exchange_wait t p (number_on m t p) a.outcome) event a.is (j, owes, first)
    by false first e =
        let p = output_at job t j in
        let vs = values_up_to most job m t j in
        let made = signal t j p (number_on m t p) vs in
        owes_for steps most job m made event (signalled job m t j vs made event e).2 (owes, refl, first)

pub event_owes : (steps most : ℕ) (job : Job) (m : Moment) (t : ℕ) (event : TaskEvent)
    → turn_up_to steps most job m t ≡ makes event → OwesFor steps most job m event
event_owes steps most job m t event answer = by (is_live job m t) answer
  where
    childless : first_owed job m t ≡ None → (b : Bool)
        → answer_up_to steps most job m t (cond b leaves
        (next_step (task_at job.graph t) (m.begun t) (task_at job.graph t).kind)) ≡ makes event
        → OwesFor steps most job m event
    childless none true e = leave_owes steps most job m t event e
    childless none false e = step_owes steps most job m t event none (task_at job.graph t).kind e

    at_rest : first_owed job m t ≡ None → (o : Option ℕ)
        → answer_up_to steps most job m t (at_boundary job m t o) ≡ makes event → OwesFor steps most job m event
    at_rest none (Some c) e = register_owes steps most job m t c event e
    at_rest none None e =
        childless none (is_cut (task_at job.graph t).until (m.begun t)
        || has_input_ended job m t (task_at job.graph t).kind) e

    of_owed : (o : Option ℕ) → first_owed job m t ≡ o
        → answer_up_to steps most job m t (of_live job m t o) ≡ makes event → OwesFor steps most job m event
    of_owed (Some j) owes e = owing_owes steps most job m t j event owes e
    of_owed None none e = at_rest none (first_due job m t) e

    by : (b : Bool)
        → answer_up_to steps most job m t (cond b (of_live job m t (first_owed job m t)) is_not_live)
        ≡ makes event → OwesFor steps most job m event
    by true e = of_owed (first_owed job m t) refl e
    by false e = absurd (cc)
