-- What a registration has received, where its number stayed.
use Rattle.std.proofs.Common.{◌≡◌, ℕ, ℤ, List, [], ◌∷◌, true, ap, ◌∙◌}
use Rattle.std.specs.Prelude.{Result, Ok, Err}
use Rattle.phase_base.specs.declared.mode.Mode.{Mode}
use Rattle.phase_base.specs.declared.mode.Mode.TheVariants.{Wait}
use Rattle.phase_accum.specs.Operations.{Operation}
use Rattle.phase_accum.specs.declared.outcome.Outcome.{Outcome}
use Rattle.phase_history.specs.Phases.{received_by}
use Rattle.phase_base.specs.Lists.{is_in}
use Rattle.phase_core.specs.declared.standing.Standing.{Standing}
use Rattle.phase_history.specs.Histories.{History}
use Rattle.phase_history.specs.Others.{OthersCame}
use Rattle.phase_history.specs.declared.refusal.NoTask.{NoTask}
use Rattle.phase_history.specs.declared.refusal.RegisterRefusal.{RegisterRefusal}
use Rattle.phase_shared.specs.Standings.{AnswersStanding}
use Rattle.phase_shared.specs.Regs.{RegState}
use Rattle.phase_shared.specs.declared.tried.Tried.{Tried}
use Rattle.phase_shared.specs.declared.tried.Tried.TheVariants.{Busy, Refused}
use Rattle.phase_shared.specs.Calls.{Registers, Tries}
use Rattle.phase_shared.specs.Joins.{RegistersNow}
use Rattle.phase_shared.proofs.PartSteps.{parent_stays, refused_register}
use Rattle.phase_shared.proofs.BlockPartSteps.{parent_stays_now}
use Rattle.phase_shared.proofs.Small.{is_in_self}
use Rattle.phase_received.specs.Received.{received_of}

pub received_now : {A K : Type 0} (op : Operation A) (old new : RegState A K) (list : List Outcome) → new.number ≡ old.number
    → received_by op.value new.seen old.number ≡ list → received_of op new ≡ list
received_now op old new list number is = ap (λ n. received_by op.value new.seen n) number ∙ is

-- a registration adds nothing to what its parent has received
pub parent_received : {A K : Type 0} (op : Operation A) (mode : Mode) (old new : RegState A K)
    (answer : Result (RegState A K) RegisterRefusal) → Registers op mode old new answer
    → received_by op.value new.seen old.number ≡ received_of op old
parent_received op mode old new (Ok child) is =
    (parent_stays old.number child.number mode old.seen new.seen is.registered).received op.value
parent_received op mode old new (Err refusal) is =
    (refused_register old.number mode old.seen new.seen refusal is).received op.value

pub parent_received_now : {A K : Type 0} (op : Operation A) (old new : RegState A K)
    (answer : Result (RegState A K) RegisterRefusal) → RegistersNow op old new answer
    → received_by op.value new.seen old.number ≡ received_of op old
parent_received_now op old new (Ok child) is =
    (parent_stays_now old.number child.number old.entry child.entry old.seen new.seen is.registered).received op.value
parent_received_now op old new (Err refusal) is =
    (refused_register old.number Wait old.seen new.seen refusal is).received op.value

pub received_by_parent : {A K : Type 0} (op : Operation A) (mode : Mode) (old new : RegState A K)
    (answer : Result (RegState A K) RegisterRefusal) → Registers op mode old new answer
    → new.number ≡ old.number → received_of op new ≡ received_of op old
received_by_parent op mode old new answer is number =
    received_now op old new (received_of op old) number (parent_received op mode old new answer is)

-- a try receives nothing where its call receives nothing
pub received_by_try : {A K X R : Type 0} (op : Operation A) (old new : RegState A K)
    (call : Result X R → Type 0) (result : Result X (Tried R)) → Tries (new ≡ old) call result
    → ((answer : Result X R) → call answer → received_by op.value new.seen old.number ≡ received_of op old)
    → new.number ≡ old.number → received_of op new ≡ received_of op old
received_by_try op old new call (Ok x) t none number =
    received_now op old new (received_of op old) number (none (Ok x) t)
received_by_try op old new call (Err Busy) t none number = ap (received_of op) t
received_by_try op old new call (Err (Refused refusal)) t none number =
    received_now op old new (received_of op old) number (none (Err refusal) t)

-- while others' events come, what a task has received stays
abbrev pub OwnStays : Type 0
OwnStays =
    (value : List ℤ → Outcome) (tasks : List ℕ) (old new : History) (task : ℕ)
    → OthersCame tasks old new → is_in task tasks ≡ true
    → received_by value new task ≡ received_by value old task

-- who is told how a phaser stands receives nothing
pub told_received : {A K : Type 0} (op : Operation A) (old new : RegState A K) (answer : Result Standing NoTask) → OwnStays
    → AnswersStanding old.number old.seen new.seen answer → received_by op.value new.seen old.number ≡ received_of op old
told_received op old new (Ok standing) stays told =
    stays op.value (old.number ∷ []) old.seen new.seen old.number told.others (is_in_self old.number [])
told_received op old new (Err refusal) stays told = absurd told
