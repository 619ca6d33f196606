-- Whose event a turn makes, and what a child's registration is for.
use Rattle.std.proofs.Common.{◌≡◌, ℕ, ◌+◌, Bool, true, false, cond, Option, Some, None, refl}
use Rattle.std.specs.Prelude.{slice_range}
use Rattle.phase_history.specs.Histories.{greatest_used}
use Rattle.phase_history.specs.Phases.{stream_of}
use Rattle.phase_history.specs.Refusals.{register_refusal, register_now_refusal, drop_refusal}
use Rattle.graph_base.specs.declared.registration.Registration.{Registration}
use Rattle.graph_base.specs.Graphs.{task_at}
use Rattle.stream_lists.specs.Jobs.{Job}
use Rattle.graph_runs.specs.Moments.{Moment, input_at, value_at}
use Rattle.graph_runs.specs.TaskEvents.{TaskEvent, sample, signal, first_wait, exchange_wait, leave, child, child_now}
use Rattle.graph_runs.specs.NextBlocks.{block_up_to}
use Rattle.graph_runs.specs.Nexts.{Next, is_not_live, registers, leaves, samples, signals, waits, exchanges, is_live, of_live, first_owed, first_kept, first_missing, number_on}
use Rattle.graph_runs.specs.Answers.{makes, call_leave, call_register, register_answer, output_at, answer_up_to, turn_up_to, values_up_to, samples_up_to}
use Rattle.graph_runs.proofs.Signalling.{Live, live-is, signalled}
use Rattle.graph_runs.proofs.Calling.{answered, answered_all, accepted}

-- the task of an event
abbrev pub task_of : TaskEvent → ℕ
task_of (sample t j p n vs) = t
task_of (signal t j p n vs) = t
task_of (first_wait t k p n outcomes) = t
task_of (exchange_wait t p n outcome) = t
task_of (leave t p n) = t
task_of (child t p n c a mode) = t
task_of (child_now t p n c a) = t

-- a child is registered for the first of its registrations that it has not made, and a task leaves
-- the first phaser that it has not left
abbrev pub IsInOrder : Job → Moment → TaskEvent → Type 0
IsInOrder job m (child t p n c a mode) =
    (r : Registration) × (first_missing job m c ≡ Some r) × (r.phaser ≡ p) × (r.mode ≡ mode)
    × (greatest_used (m.history p) + 1 ≡ a) × ((task_at job.graph c).joins_now ≡ false)
IsInOrder job m (child_now t p n c a) =
    (r : Registration) × (first_missing job m c ≡ Some r) × (r.phaser ≡ p)
    × (greatest_used (m.history p) + 1 ≡ a) × ((task_at job.graph c).joins_now ≡ true)
IsInOrder job m (leave t p n) =
    (r : Registration) × (first_kept job m t ≡ Some r) × (r.phaser ≡ p) × (number_on m t p ≡ n)
IsInOrder job m event = Unit {0}

-- whose event it is, of a task that is live, and for which registration
pub record IsMadeBy (job : Job) (m : Moment) (t : ℕ) (event : TaskEvent) : Type 0 where
  pub own : task_of event ≡ t
  pub missing : IsInOrder job m event

made_is : (job : Job) (m : Moment) (t : ℕ) (made event : TaskEvent) → made ≡ event
    → IsMadeBy job m t made → IsMadeBy job m t event
made_is job m t made event same is =
    rw same at is

pub made_next : (steps most : ℕ) (job : Job) (m : Moment) (t : ℕ) (event : TaskEvent) (next : Next)
    → answer_up_to steps most job m t next ≡ makes event → IsMadeBy job m t event
made_next steps most job m t event is_not_live e = absurd (cc)
made_next steps most job m t event (registers c) e = register (first_missing job m c) refl e
  where
    register : (o : Option Registration) → first_missing job m c ≡ o
        → call_register job m t c o ≡ makes event → IsMadeBy job m t event
    register None found e = absurd (cc)
    register (Some r) found e = by (task_at job.graph c).joins_now refl e
      where
        by : (b : Bool) → (task_at job.graph c).joins_now ≡ b
            → register_answer m t c r b ≡ makes event → IsMadeBy job m t event
        by true now e =
            let n = number_on m t r.phaser in
            let a = greatest_used (m.history r.phaser) + 1 in
            let made = child_now t r.phaser n c a in
            made_is job m t made event
            (accepted made event (register_now_refusal (m.history r.phaser) n a) e).1
            (record { own = refl; missing = (r, found, refl, refl, now) })
        by false now e =
            let n = number_on m t r.phaser in
            let a = greatest_used (m.history r.phaser) + 1 in
            let made = child t r.phaser n c a r.mode in
            made_is job m t made event
            (accepted made event (register_refusal (m.history r.phaser) n a r.mode) e).1
            (record { own = refl; missing = (r, found, refl, refl, refl, now) })
made_next steps most job m t event leaves e = drop (first_kept job m t) refl e
  where
    drop : (o : Option Registration) → first_kept job m t ≡ o → call_leave m t o ≡ makes event
        → IsMadeBy job m t event
    drop None found e = absurd (cc)
    drop (Some r) found e =
        let made = leave t r.phaser (number_on m t r.phaser) in
        made_is job m t made event
        (accepted made event (drop_refusal (m.history r.phaser) (number_on m t r.phaser)) e).1
        (record { own = refl; missing = (r, found, refl, refl) })
made_next steps most job m t event samples e =
    let p = output_at job t 0 in
    let vs = samples_up_to steps job m t in
    let made = sample t 0 p (number_on m t p) vs in
    made_is job m t made event (signalled job m t 0 vs made event e).2
    (record { own = refl; missing = tt })
made_next steps most job m t event (signals j) e =
    let p = output_at job t j in
    let vs = values_up_to most job m t j in
    let made = signal t j p (number_on m t p) vs in
    made_is job m t made event (signalled job m t j vs made event e).2
    (record { own = refl; missing = tt })
made_next steps most job m t event (waits k) e =
    let p = input_at (task_at job.graph t) k in
    let made = first_wait t k p (number_on m t p) in
    let a = answered_all job m t p (block_up_to steps job m t) made event e in
    made_is job m t
    (made (slice_range (stream_of (value_at job p) (m.history p)) a.phase (a.phase + a.count)))
    event a.is (record { own = refl; missing = tt })
made_next steps most job m t event exchanges e =
    let p = input_at (task_at job.graph t) 1 in
    let a = answered job m t p (exchange_wait t p (number_on m t p)) event e in
    made_is job m t (exchange_wait t p (number_on m t p) a.outcome) event a.is
    (record { own = refl; missing = tt })

pub made_by : (steps most : ℕ) (job : Job) (m : Moment) (t : ℕ) (event : TaskEvent)
    → turn_up_to steps most job m t ≡ makes event → Live job m t × IsMadeBy job m t event
made_by steps most job m t event answer = by (is_live job m t) refl answer
  where
    by : (b : Bool) → is_live job m t ≡ b
        → answer_up_to steps most job m t (cond b (of_live job m t (first_owed job m t)) is_not_live)
        ≡ makes event → Live job m t × IsMadeBy job m t event
    by true live e =
        (live-is job m t live, made_next steps most job m t event (of_live job m t (first_owed job m t)) e)
    by false live e = absurd (cc)
