-- What registrations have received, by the history that was seen.
use Rattle.std.specs.Prelude.{◌≡◌, ◌≤◌, ℕ, List, [], ◌∷◌, ◌++◌, map, take, Result, Ok, Err}
use Rattle.phase_accum.specs.Operations.{Operation}
use Rattle.phase_accum.specs.declared.outcome.Outcome.{Outcome}
use Rattle.phase_history.specs.Phases.{received_by}
use Rattle.phase_history.specs.declared.got.GotBlock.{GotBlock}
use Rattle.phase_history.specs.declared.got.GotBlock.TheVariants.{Values, Ended}
use Rattle.phase_shared.specs.Regs.{RegState, PastState}
use Rattle.phase_received.specs.declared.fault.ReceiveFault.{ReceiveFault}
use Rattle.phase_received.specs.declared.fault.ReceiveFault.TheVariants.{OutOfMemory, Refused}

-- what a registration has received, the first value first
abbrev pub received_of : {A K : Type 0} → Operation A → RegState A K → List Outcome
received_of op reg = received_by op.value reg.seen reg.number

-- what each registration that went into a past has received, in the order of their numbers
abbrev pub all_received : {A K : Type 0} → Operation A → PastState K → List (List Outcome)
all_received op past = map (received_by op.value past.seen) past.numbers

-- a list after a wait for a block that left these places got this
abbrev pub with_values : List Outcome → List Outcome → GotBlock → List Outcome
with_values list places (Values phase count) = list ++ take count places
with_values list places Ended = list

-- for the code: as many values were got as there are places, at most
abbrev pub CountFits : ℕ → GotBlock → Type 0
CountFits n (Values phase count) = count ≤ n
CountFits n Ended = Unit {0}

-- a past is that of this one registration, at its phaser
pub record IsPastOf {A K : Type 0} (reg : RegState A K) (past : PastState K) : Type 0 where
  pub numbers : past.numbers ≡ reg.number ∷ []
  pub at : past.at ≡ reg.at

-- there was no memory and all stayed as it was, or the call is refused
abbrev pub Declines : {R : Type 0} → Type 0 → (R → Type 0) → ReceiveFault R → Type 0
Declines same call OutOfMemory = same
Declines same call (Refused refusal) = call refusal

-- there was no memory and all stayed as it was, or the call has its answer
abbrev pub Receives : {X R : Type 0} → Type 0 → (Result X R → Type 0)
    → Result X (ReceiveFault R) → Type 0
Receives same call (Ok answer) = call (Ok answer)
Receives same call (Err fault) = Declines same (λ refusal. call (Err refusal)) fault
