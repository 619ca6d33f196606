-- What tries of a registration are as tries of a member.
use Rattle.std.proofs.Common.{◌≡◌, ℕ, ℤ, List, [], ◌∷◌, ◌++◌, Option, Some, true, length, refl, sym, ap, subst, ◌∙◌, arith, length-append}
use Rattle.std.specs.Prelude.{Result, Ok, Err}
use Rattle.phase_base.specs.Limits.{Limits}
use Rattle.phase_base.specs.Members.{entry_of}
use Rattle.phase_base.specs.declared.entry.Entry.{Entry}
use Rattle.phase_accum.specs.Operations.{Operation, AccumulateLaws, IsPartOf, part}
use Rattle.phase_accum.specs.Parcels.{Parcel, StandsForSends}
use Rattle.phase_accum.specs.declared.single.Single.{Single}
use Rattle.phase_accum.proofs.Parts.{IsPartOf-part, IsPartOf-join, value-same}
use Rattle.phase_history.specs.declared.got.Got.{Got}
use Rattle.phase_history.specs.declared.refusal.SignalRefusal.{SignalRefusal}
use Rattle.phase_history.specs.Histories.{History, members_of}
use Rattle.phase_history.specs.Legal.{IsLegal}
use Rattle.phase_history.specs.Replies.{signal_reply}
use Rattle.phase_shared.specs.declared.phaser.Phaser.{Phaser}
use Rattle.phase_shared.specs.declared.rule.Unwoken.{Unwoken}
use Rattle.phase_shared.specs.declared.tried.Tried.{Tried}
use Rattle.phase_shared.specs.Calls.{IsTry, Tries, Signals, SignalsAndMayWait, MayWait}
use Rattle.phase_shared.specs.Rule.{Allows}
use Rattle.phase_shared.specs.Regs.{RegState, IsGoodOn, phaser_lock, phaser_terms, phaser_limits}
use Rattle.phase_shared.proofs.Answering.{Tries-map}
use Rattle.phase_shared.proofs.OneValue.{one_list}
use Rattle.shared_handle.specs.Members.{limits_by, as_registration, IsInItsHistory}
use Rattle.shared_handle.specs.Calls.{AreAlike, SignalsSends, SignalsAndWaits, IsMemberTry}

module _ {A : Type 0} where
  -- registrations that differ in what they hold alone are one member
  pub state_same : (a b : RegState A Unwoken) → a.at ≡ b.at → a.number ≡ b.number
      → a.entry ≡ b.entry → a.seen ≡ b.seen → as_registration a ≡ as_registration b
  state_same a b at number entry seen = λ i. record {
    at = at i;
    number = number i;
    entry = entry i;
    seen = seen i;
  }

  -- a registration on this phaser is a member
  pub is_member : (allows : Unwoken → Allows) (phaser : Phaser A Unwoken)
      (reg : RegState A Unwoken) → reg.at ≡ phaser_lock phaser → IsGoodOn allows reg.at reg.seen
      → entry_of (members_of reg.seen) reg.number ≡ Some reg.entry
      → IsInItsHistory (as_registration reg)
  is_member allows phaser reg at good entry = record {
    legal = subst (λ place. IsLegal (limits_by place) reg.seen) (sym at)
        ((good (phaser_terms phaser) (ap (λ place. place.1) at)).legal);
    member = entry;
  }

  -- a try of a registration on this phaser is a try of its member
  pub member_try : {X R : Type 0} (allows : Unwoken → Allows) (phaser : Phaser A Unwoken)
      (no_task : R) (after : Option X → Entry → Entry) (same same' : Type 0)
      (call call' : Result X R → Type 0) (old new : RegState A Unwoken)
      (answer : Result X (Tried R)) → old.at ≡ phaser_lock phaser → (same → same')
      → ((told : Result X R) → call told → call' told)
      → IsTry allows (phaser_terms phaser) no_task after (Tries same call answer) old new answer
      → IsMemberTry no_task after same' call' (as_registration old) (as_registration new) answer
  member_try allows phaser no_task after same same' call call' old new answer at still told t =
      record {
        call_is = Tries-map same same' call call' still told answer t.call;
        stays = record {
          at = t.at.0;
          number = t.at.1;
          entry_is = t.entry;
          legal = subst (λ place. IsLegal (limits_by place) new.seen) (sym at) (t.good.legal);
        };
        known = t.known;
        alone = λ alone. t.alone alone.only;
      }

  -- the limits of the phaser that a registration is on
  pub limits_same : (phaser : Phaser A Unwoken) (reg : RegState A Unwoken)
      → reg.at ≡ phaser_lock phaser → phaser_limits phaser ≡ limits_by reg.at
  limits_same phaser reg at = sym (ap limits_by at)

-- ---- signals

module _ {A : Type 0} (op : Operation A) (laws : AccumulateLaws op) where
  -- sends that are held as these values are, are alike
  pub alike : (held : Parcel A) (values sends : List ℤ) → StandsForSends op held values
      → StandsForSends op held sends → AreAlike op.value values sends
  alike held values sends stands other = record {
    are_sends = other.part_is.are_sends;
    many = sym other.count_is ∙ stands.count_is;
    one = λ v is. one_list op held v sends laws
        (subst (λ (l : List ℤ). StandsForSends op held l) is stands) other;
    same = λ front back before behind few.
        let many : length sends ≡ length values = sym other.count_is ∙ stands.count_is in
        let x = op.join (op.join (part op front) held.part) (part op back) in
        let whole : (mid : List ℤ) → StandsForSends op held mid → length mid ≡ length values
        → IsPartOf op x (front ++ mid ++ back) =
        λ mid is long.
        IsPartOf-join op (op.join (part op front) held.part) (part op back) (front ++ mid) back laws
        (IsPartOf-join op (part op front) held.part front mid laws
        (IsPartOf-part op front before (omega arith)) is.part_is (omega arith))
        (IsPartOf-part op back behind (omega arith))
        (omega (arith, length-append front mid)) in
        value-same op x (front ++ sends ++ back) (front ++ values ++ back) laws
        (whole sends other many) (whole values stands refl);
  }

  -- a signal of what is held for these values is a signal of them
  pub signals_sends : (limits limits' : Limits) (me : ℕ) (held : Parcel A) (values : List ℤ)
      (single : Option Single) (old new : History) (answer : Result ℕ SignalRefusal)
      → limits ≡ limits' → StandsForSends op held values
      → Signals op limits me held single old new answer
      → SignalsSends op.value limits' me values single old new answer
  signals_sends limits limits' me held values single old new answer same stands s = record {
    before = s.before;
    sends = s.sends;
    others = s.others;
    alike = alike held values s.sends stands s.stands;
    seen = s.seen;
    reply = subst (λ (l : Limits). signal_reply l s.before me (values ∷ []) single ≡ answer) same
        (s.reply values stands);
  }

  -- so is one with a wait right after it
  pub signals_and_waits : (limits limits' : Limits) (me : ℕ) (held : Parcel A) (values : List ℤ)
      (single : Option Single) (old new : History) (answer : Result (ℕ × Option Got) SignalRefusal)
      → limits ≡ limits' → StandsForSends op held values
      → SignalsAndMayWait true op limits me held single old new answer
      → SignalsAndWaits op.value limits' me values single old new answer
  signals_and_waits limits limits' me held values single old new (Ok answer) same stands s =
      record {
        middle = s.middle;
        signals = signals_sends limits limits' me held values single old s.middle (Ok answer.0)
            same stands s.signals;
        waits = subst (λ (l : Limits). MayWait true op.value l me s.middle new answer.1) same
            s.waits;
      }
  signals_and_waits limits limits' me held values single old new (Err refusal) same stands s =
      signals_sends limits limits' me held values single old new (Err refusal) same stands s
