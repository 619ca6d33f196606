-- What a registration and its member tell of each other.
use Rattle.std.proofs.Common.{◌≡◌, Some, [], ◌∷◌, ap, refl, sym, subst}
use Rattle.phase_base.specs.Members.{entry_of}
use Rattle.phase_history.specs.Histories.{members_of}
use Rattle.phase_history.specs.Legal.{IsLegal}
use Rattle.phase_history.specs.Others.{OnlyUsed}
use Rattle.phase_shared.specs.declared.rule.NoRule.{NoRule}
use Rattle.phase_shared.specs.declared.phaser.Phaser.{Phaser}
use Rattle.phase_shared.specs.Rule.{Allows}
use Rattle.phase_shared.specs.Regs.{RegState, IsGoodOn, phaser_lock, phaser_terms}
use Rattle.stream_members.specs.Members.{MemberState, limits_on, member_state, IsMember, IsAlone}

-- a registration on this phaser is a member
pub is_member : {A : Type 0} (allows : NoRule → Allows) (phaser : Phaser A NoRule)
    (reg : RegState A NoRule) → reg.at ≡ phaser_lock phaser → IsGoodOn allows reg.at reg.seen
    → entry_of (members_of reg.seen) reg.number ≡ Some reg.entry → IsMember (member_state reg)
is_member allows phaser reg at good entry = record {
  legal = subst (λ place. IsLegal (limits_on place) reg.seen) (sym at)
      ((good (phaser_terms phaser) (ap (λ place. place.1) at)).legal);
  entry = reg.entry;
  member = entry;
  mode = refl;
}

-- a member that is alone is a registration that is
pub only_used : {A : Type 0} (reg : RegState A NoRule) (m : MemberState)
    → member_state reg ≡ m → IsAlone m → OnlyUsed (reg.number ∷ []) reg.seen
only_used reg m is alone = (subst IsAlone (sym is) alone).only
