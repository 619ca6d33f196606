-- A signal with one value, by one call.
use Rattle.std.specs.Prelude.{◌≡◌, ◌⊎◌, ℕ, ℤ, [], ◌∷◌, Option, Result}
use Rattle.phase_shared.specs.Phasers.{Limits, Operation, Parcel, StandsForSends, Single, SignalRefusal, History, signal_reply, after_signal, OthersCame}
use Rattle.phase_shared.specs.declared.rule.Terms.{Terms}
use Rattle.phase_shared.specs.Rule.{Allows, IsGoodAt}
use Rattle.phase_shared.specs.Regs.{RegState}

-- a signal of one phase whose one send is this value: events of others, and there the definition's
-- answer; then the signal's event, where it was accepted
pub record SignalsValue (limits : Limits) (me : ℕ) (value : ℤ) (single : Option Single)
    (old new : History) (answer : Result ℕ SignalRefusal) : Type 0 where
  pub before : History
  pub others : OthersCame (me ∷ []) old before
  pub seen : new ≡ after_signal answer me ((value ∷ []) ∷ []) single before
  pub reply : signal_reply limits before me ((value ∷ []) ∷ []) single ≡ answer

-- nothing is held, or the value alone
abbrev pub IsFreeFor : {A : Type 0} → Operation A → Parcel A → ℤ → Type 0
IsFreeFor op held value = (held.count ≡ 0) ⊎ StandsForSends op held (value ∷ [])

-- whatever the others do, the phaser's rule allows a signal with this value
abbrev pub MayPut : {A K : Type 0} → (K → Allows) → Terms K → RegState A K → ℤ → Option Single
    → Type 0
MayPut allows terms reg value single =
    (h : History) → IsGoodAt allows terms h → OthersCame (reg.number ∷ []) reg.seen h
    → allows terms.rule h reg.number ((value ∷ []) ∷ []) single
