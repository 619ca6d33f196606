-- A registration of a waiter that joins now, under the turn.
use Rattle.std.proofs.Common.{◌≡◌, ℕ, ◌∷◌, Some, None, refl, ap, ◌∙◌}
use Rattle.phase_shared.specs.Phasers.{Limits, entry_of, Entry, History, members_of, entry_at, signal_phase, done_of, IsLegal, IsUsed, register_now_refusal, Operation, CoreState, StandsFor}
use Rattle.phase_base.specs.declared.mode.Mode.TheVariants.{Wait}
use Rattle.phase_history.specs.declared.event.Event.TheVariants.{RegisteredNow}
use Rattle.phase_history.proofs.MemberLemmas.{entry_of-push_new, entry_of-push_old}
use Rattle.phase_history.proofs.Steps.{sound_of, member_entry_is}
use Rattle.phase_history.proofs.Received.{fresh}
use Rattle.phase_shared.specs.declared.rule.Terms.{Terms}
use Rattle.phase_shared.specs.Rule.{Allows, IsGoodAt, StandsWithin}
use Rattle.phase_shared.proofs.Small.{eqb_refl}
use Rattle.phase_shared.proofs.Giving.{AfterCall, after_call}
use Rattle.phase_shared.proofs.RegisterSteps.{NewChild, new_child, NewMember}

-- the child's number is used then
pub child_used_now : (now : History) (me child : ℕ) → IsUsed (RegisteredNow me child ∷ now) child
child_used_now now me child = rw (eqb_refl child) refl

-- where the child stands: at its parent's signal phase and the first phase that is not complete
pub member_child_now : (limits : Limits) (now : History) (me child : ℕ) (entry : Entry) → IsLegal limits now → NewChild now me child
    → entry_of (members_of now) me ≡ Some entry
    → entry_of (members_of (RegisteredNow me child ∷ now)) child ≡ Some (entry_at Wait entry.signal_phase (done_of now))
member_child_now limits now me child entry legal new there =
    entry_of-push_new (members_of now) child (entry_at Wait (signal_phase now me) (done_of now)) (fresh now child (sound_of limits now legal) new.above)
    ∙ ap (λ (e : Entry). Some (entry_at Wait e.signal_phase (done_of now))) (member_entry_is (members_of now) me entry there)

-- a call that was accepted, at the first phase that is not complete
pub new_member_now : {A K : Type 0} (op : Operation A) (allows : K → Allows) (terms : Terms K) (me : ℕ) (entry : Entry)
    (now : History) (child : ℕ) (old x : CoreState A) → StandsWithin op terms.limits old now → IsGoodAt allows terms now → IsUsed now me
    → entry_of (members_of now) me ≡ Some entry → register_now_refusal now me child ≡ None → x.limits ≡ old.limits
    → StandsFor op x (RegisteredNow me child ∷ now)
    → NewMember op allows terms me entry now (RegisteredNow me child) child (entry_at Wait entry.signal_phase (done_of now)) x
new_member_now op allows terms me entry now child old x before good used member accepted same after =
    let new : NewChild now me child = new_child terms.limits now me child Wait entry good.legal used accepted in
    let s : AfterCall op allows terms me (RegisteredNow me child ∷ now) x =
    after_call op allows terms me now (RegisteredNow me child ∷ now) old x before same after good.keeps in
    record {
      own = λ task. refl;
      new = new;
      joined = child_used_now now me child;
      good = s.good;
      stands = s.stands;
      member = entry_of-push_old (members_of now) child me (entry_at Wait (signal_phase now me) (done_of now)) entry member;
      there = member_child_now terms.limits now me child entry good.legal new member;
    }
