-- A task's next phase: its signal where its mode signals, and then its wait where its mode waits.
use Rattle.std.specs.Prelude.{◌≡◌, Bool, true, false, Option, Some, None, IsSome, Result, Ok, Err}
use Rattle.phase_shared.specs.Phasers.{Limits, mode_signals, mode_waits, Operation, Single, SignalRefusal, History}
use Rattle.phase_history.specs.declared.refusal.SignalRefusal.TheVariants as signal
use Rattle.phase_shared.specs.declared.next.Next.{Next}
use Rattle.phase_shared.specs.Regs.{RegState}
use Rattle.phase_shared.specs.Calls.{Signals, Waits}
pub use Rattle.phase_shared.specs.Calls.{MayWait, HasSignalledAndMayWait, SignalsAndMayWait}

-- a call that is made where it can be, with its answer; else there is none, and nothing came
abbrev pub MadeWhere : {X : Type 0} → Bool → (X → Type 0) → Type 0 → Option X → Type 0
MadeWhere true call nothing (Some answer) = call answer
MadeWhere false call nothing None = nothing
MadeWhere can call nothing answer = ⊥

-- the signal came first, up to the middle, and then the wait
pub record GoesNext {A K : Type 0} (op : Operation A) (limits : Limits) (single : Option Single)
    (old : RegState A K) (new : History) (next : Next) : Type 0 where
  pub middle : History
  pub signals : MadeWhere (mode_signals old.entry.mode)
      (λ phase. Signals op limits old.number old.held single old.seen middle (Ok phase))
      (middle ≡ old.seen) next.signalled
  pub waits : MadeWhere (mode_waits old.entry.mode)
      (λ got. Waits op.value limits old.number middle new (Ok got)) (new ≡ middle) next.got
  -- a task that does not signal names no single
  pub named : mode_signals old.entry.mode ≡ false → single ≡ None

-- where the mode signals, the signal is refused; else a single was named, and nothing came
abbrev pub RefusesNext : {A K : Type 0} → Operation A → Limits → Option Single → RegState A K
    → History → Bool → SignalRefusal → Type 0
RefusesNext op limits single old new true refusal =
    Signals op limits old.number old.held single old.seen new (Err refusal)
RefusesNext op limits single old new false refusal =
    (refusal ≡ signal.NotSingle) × IsSome single × (new ≡ old.seen)

-- a next phase, or its refusal
abbrev pub GoesOrRefuses : {A K : Type 0} → Operation A → Limits → Option Single → RegState A K
    → History → Result Next SignalRefusal → Type 0
GoesOrRefuses op limits single old new (Ok next) = GoesNext op limits single old new next
GoesOrRefuses op limits single old new (Err refusal) =
    RefusesNext op limits single old new (mode_signals old.entry.mode) refusal
