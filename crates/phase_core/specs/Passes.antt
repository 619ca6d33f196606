-- A signal and a wait in one.
use Rattle.std.specs.Prelude.{◌≡◌, ℕ, ℤ, List, [], ◌∷◌, Option, Some, None, Result, Ok, Err}
use Rattle.phase_accum.specs.Operations.{Operation}
use Rattle.phase_accum.specs.Parcels.{Parcel, StandsForSends}
use Rattle.phase_accum.specs.declared.outcome.Outcome.{Outcome}
use Rattle.phase_accum.specs.declared.single.Single.{Single}
use Rattle.phase_history.specs.declared.event.Event.TheVariants.{Signalled, Waited}
use Rattle.phase_history.specs.declared.got.Got.{Got}
use Rattle.phase_history.specs.declared.got.Got.TheVariants as got
use Rattle.phase_history.specs.declared.refusal.WaitRefusal.{WaitRefusal}
use Rattle.phase_history.specs.Histories.{History}
use Rattle.phase_history.specs.Replies.{signal_reply, wait_reply, after_wait}
use Rattle.phase_core.specs.Cores.{CoreState, StandsFor}

-- the history after a signal of as many phases as there are lists of sends, and a wait behind it;
-- where the signal is refused, nothing comes
abbrev pub after_both : {R : Type 0} → Result (ℕ × Result Got WaitRefusal) R → ℕ → List (List ℤ)
    → Option Single → History → History
after_both (Ok answer) task lists single h =
    after_wait answer.1 task (Signalled task lists single ∷ h)
after_both (Err refusal) task lists single h = h

-- the signal and the wait are accepted and answer the same phase, the wait with this value
pub record Passes {A : Type 0} (op : Operation A) (old new : CoreState A) (task : ℕ)
    (sends : List ℤ) (single : Option Single) (h : History) (answer : ℕ × Outcome)
    : Type 0 where
  pub signals : signal_reply old.limits h task (sends ∷ []) single ≡ Ok answer.0
  pub waits : wait_reply op.value old.limits (Signalled task (sends ∷ []) single ∷ h) task
      ≡ Ok (got.Value answer.0 answer.1)
  pub stands : StandsFor op new (Waited task 1 ∷ Signalled task (sends ∷ []) single ∷ h)

-- for the code: so it is after every history, where there is an answer
abbrev pub PassedAt : {A : Type 0} → Operation A → CoreState A → CoreState A → ℕ → Parcel A
    → Option Single → Option (ℕ × Outcome) → Type 0
PassedAt op old new task held single None = Unit {0}
PassedAt op old new task held single (Some answer) = (h : History) (sends : List ℤ)
    → StandsFor op old h → StandsForSends op held sends
    → Passes op old new task sends single h answer
