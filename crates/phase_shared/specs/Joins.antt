-- A waiter that joins now: what its registration answers, and how the history that its parent has
-- seen goes on.
use Rattle.std.specs.Prelude.{◌≡◌, ℕ, ◌+◌, [], ◌∷◌, None, Result, Ok, Err}
use Rattle.phase_shared.specs.Phasers.{Entry, History, greatest_used, done_of, entry_at, register_now_refusal, OthersCame, Operation, StandsForSends, RegisterRefusal}
use Rattle.phase_base.specs.declared.mode.Mode.TheVariants.{Wait}
use Rattle.phase_history.specs.declared.event.Event.TheVariants.{RegisteredNow}
use Rattle.phase_shared.specs.Regs.{RegState}
use Rattle.phase_shared.specs.Calls.{RefusesRegister}

-- an accepted registration of a waiter that joins now: events of others, and there a child with the
-- number above all that were used, at the first phase that is not complete; then its event
pub record HasRegisteredNow (me child : ℕ) (parent start : Entry) (old new : History) : Type 0 where
  pub before : History
  pub others : OthersCame (me ∷ []) old before
  pub seen : new ≡ RegisteredNow me child ∷ before
  pub reply : register_now_refusal before me child ≡ None
  pub next : child ≡ greatest_used before + 1
  pub entry : start ≡ entry_at Wait parent.signal_phase (done_of before)

-- the child of such a registration, whose parent has then seen this: it is on the parent's phaser,
-- has seen what the parent has, and holds nothing
pub record IsChildNow {A K : Type 0} (op : Operation A) (old new child : RegState A K)
    : Type 0 where
  pub registered : HasRegisteredNow old.number child.number old.entry child.entry old.seen new.seen
  pub at : child.at ≡ old.at
  pub seen : child.seen ≡ new.seen
  pub none_held : StandsForSends op child.held [] × (child.held.count ≡ 0)

-- a registration of a waiter that joins now: a child, or the refusal, which is that of a
-- registration in the mode `Wait`
abbrev pub RegistersNow : {A K : Type 0} → Operation A → RegState A K → RegState A K
    → Result (RegState A K) RegisterRefusal → Type 0
RegistersNow op old new (Ok child) = IsChildNow op old new child
RegistersNow op old new (Err refusal) =
    RefusesRegister old.number Wait old.seen new.seen refusal
