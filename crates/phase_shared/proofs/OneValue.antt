-- A signal with one value.
use Rattle.std.proofs.Common.{◌≡◌, ℕ, ℤ, List, [], ◌∷◌, Option, refl, sym, ap, subst, ◌∙◌}
use Rattle.std.specs.Prelude.{Result, length}
use Rattle.phase_shared.specs.Phasers.{Limits, Operation, AccumulateLaws, Parcel, StandsForSends, Single, SignalRefusal, History, OthersCame, after_signal}
use Rattle.phase_accum.proofs.Parts.{one_send-same}
use Rattle.phase_shared.specs.declared.tried.Tried.{Tried}
use Rattle.phase_shared.specs.declared.rule.Terms.{Terms}
use Rattle.phase_shared.specs.Rule.{Allows}
use Rattle.phase_shared.specs.Regs.{RegState}
use Rattle.phase_shared.specs.Calls.{Signals, Tries, MaySignal}
use Rattle.phase_shared.proofs.Answering.{Tries-map}
use Rattle.phase_shared.specs.Puts.{SignalsValue, MayPut}
use Rattle.phase_shared.specs.OneSends.{HasOneSend}

module _ {A : Type 0} (op : Operation A) (held : Parcel A) where
  -- where no send is counted, none is held
  pub holds_none : (sends : List ℤ) → StandsForSends op held sends → held.count ≡ 0
      → StandsForSends op held []
  holds_none [] stands none = stands
  holds_none (v ∷ sends) stands none =
      absurd (let z : length (v ∷ sends) ≡ 0 = sym stands.count_is ∙ none in cc)

  -- what stands for one value stands for no other list
  pub one_list : (value : ℤ) (xs : List ℤ) → AccumulateLaws op → StandsForSends op held (value ∷ [])
      → StandsForSends op held xs → xs ≡ value ∷ []
  one_list value [] laws one stands =
      absurd (let z : 0 ≡ length (value ∷ []) = sym stands.count_is ∙ one.count_is in cc)
  one_list value (w ∷ []) laws one stands =
      ap (λ v. v ∷ []) (one_send-same op held.part w value laws stands.part_is one.part_is)
  one_list value (w ∷ u ∷ xs) laws one stands =
      absurd (let z : length (w ∷ u ∷ xs) ≡ length (value ∷ []) = sym stands.count_is ∙ one.count_is in cc)

  -- a signal of what stands for one value is a signal of this value
  pub signals_value : (limits : Limits) (me : ℕ) (value : ℤ) (single : Option Single)
      (old new : History) (answer : Result ℕ SignalRefusal) → AccumulateLaws op
      → StandsForSends op held (value ∷ []) → Signals op limits me held single old new answer
      → SignalsValue limits me value single old new answer
  signals_value limits me value single old new answer laws one s = record {
    before = s.before;
    others = s.others;
    seen = s.seen
        ∙ ap (λ sends. after_signal answer me (sends ∷ []) single s.before)
        (one_list value s.sends laws one s.stands);
    reply = s.reply (value ∷ []) one;
  }

-- one value is one send
pub one_value_is_one_send : (value : ℤ) → HasOneSend ((value ∷ []) ∷ [])
one_value_is_one_send value = record { sends = value ∷ []; one_phase = refl; one_send = refl }

-- a registration that holds the value, and has seen what it had before
module _ {A K : Type 0} (op : Operation A) (allows : K → Allows) (terms : Terms K) (value : ℤ)
    (single : Option Single) (old now : RegState A K) (number : now.number ≡ old.number)
    (seen : now.seen ≡ old.seen) (laws : AccumulateLaws op)
    (one : StandsForSends op now.held (value ∷ [])) where
  -- the rule allows it to signal
  pub may_value : MayPut allows terms old value single → MaySignal op allows terms now single
  may_value may h sends good others stands =
      let came : OthersCame (old.number ∷ []) old.seen h =
      subst (λ (s : History). OthersCame (old.number ∷ []) s h) seen
      (subst (λ n. OthersCame (n ∷ []) now.seen h) number others) in
      subst (λ n. allows terms.rule h n (sends ∷ []) single) (sym number)
      (subst (λ (xs : List ℤ). allows terms.rule h old.number (xs ∷ []) single)
      (sym (one_list op now.held value sends laws one stands)) (may h good came))

  -- its signal is one of the value
  pub tries_value : (new : RegState A K) (result : Result ℕ (Tried SignalRefusal))
      → Tries (new ≡ now) (Signals op terms.limits now.number now.held single now.seen new.seen) result
      → Tries (new.seen ≡ old.seen) (SignalsValue terms.limits old.number value single old.seen new.seen) result
  tries_value new result t =
      let P : ℕ → History → Result ℕ SignalRefusal → Type 0 =
      λ me h answer. SignalsValue terms.limits me value single h new.seen answer in
      Tries-map (new ≡ now) (new.seen ≡ old.seen)
      (Signals op terms.limits now.number now.held single now.seen new.seen) (P old.number old.seen)
      (λ same. ap (λ r. r.seen) same ∙ seen)
      (λ answer s. subst (λ h. P old.number h answer) seen (subst (λ me. P me now.seen answer) number
      (signals_value op now.held terms.limits now.number value single now.seen new.seen answer laws one s)))
      result t
