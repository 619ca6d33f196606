-- Calls that wait no longer once the phaser is closed.
use Rattle.std.specs.Prelude.{◌≡◌, ℕ, ℤ, List, Bool, true, false, Option, Some, None, Result, Ok, Err}
use Rattle.phase_history.specs.declared.refusal.WaitRefusal.TheVariants.{NotYet}
use Rattle.phase_shared.specs.Phasers.{Limits, Operation, Outcome, Single, Got, SignalRefusal, History, mode_signals, mode_waits}
use Rattle.phase_shared.specs.Regs.{RegState}
use Rattle.phase_shared.specs.Calls.{Signals, Waits}
use Rattle.phase_shared.specs.Nexts.{MadeWhere, RefusesNext}
use Rattle.phase_shared.specs.declared.next.Next.{Next}
use Rattle.phase_shared.specs.declared.stopped.Stopped.{Stopped}
use Rattle.phase_shared.specs.declared.stopped.Stopped.TheVariants.{Closed, Refused}

-- the refusal, with that of a call that comes too early in place of `Closed`
abbrev pub refusal_of_stop : {R : Type 0} → R → Stopped R → R
refusal_of_stop early Closed = early
refusal_of_stop early (Refused refusal) = refusal

-- the answer, with that refusal in place of `Closed`
abbrev pub unclosed : {X R : Type 0} → R → Result X (Stopped R) → Result X R
unclosed early (Ok answer) = Ok answer
unclosed early (Err stopped) = Err (refusal_of_stop early stopped)

-- the wait of a task that waits: it got this, or nothing, where its phase is not complete there and
-- the phaser is closed. Another task makes none
abbrev pub WaitsOrStops : Bool → (List ℤ → Outcome) → Limits → ℕ → History → History → Option Got
    → Type 0
WaitsOrStops true value limits me old new (Some got) = Waits value limits me old new (Ok got)
WaitsOrStops true value limits me old new None = Waits value limits me old new (Err NotYet)
WaitsOrStops false value limits me old new (Some got) = ⊥
WaitsOrStops false value limits me old new None = new ≡ old

-- the signal came first, up to the middle, and then the wait
pub record GoesNextOrStops {A K : Type 0} (op : Operation A) (limits : Limits)
    (single : Option Single) (old : RegState A K) (new : History) (next : Next) : Type 0 where
  pub middle : History
  pub signals : MadeWhere (mode_signals old.entry.mode)
      (λ phase. Signals op limits old.number old.held single old.seen middle (Ok phase))
      (middle ≡ old.seen) next.signalled
  pub waits : WaitsOrStops (mode_waits old.entry.mode) op.value limits old.number middle new
      next.got
  -- a task that does not signal names no single
  pub named : mode_signals old.entry.mode ≡ false → single ≡ None

-- a next phase, or its refusal
abbrev pub GoesOrStops : {A K : Type 0} → Operation A → Limits → Option Single → RegState A K
    → History → Result Next SignalRefusal → Type 0
GoesOrStops op limits single old new (Ok next) = GoesNextOrStops op limits single old new next
GoesOrStops op limits single old new (Err refusal) =
    RefusesNext op limits single old new (mode_signals old.entry.mode) refusal
