-- A phaser under one of the five operations and the registration of its founder, as contracts see
-- them.
use Rattle.std.specs.Prelude.{◌≡◌, ℕ, [], ◌∷◌}
use Rattle.phase_base.specs.declared.mode.Mode.TheVariants.{Single}
use Rattle.phase_base.specs.declared.operation.Op.{Op}
use Rattle.phase_base.specs.declared.operation.Op.TheVariants.{Sum, Product, Least, Greatest, Any}
use Rattle.phase_history.specs.declared.event.Event.TheVariants.{Made}
use Rattle.phase_shared.specs.Regs.{phaser_lock}
use Rattle.stream_members.specs.Members.{Spot, MemberState, member_state}
use Rattle.stream_members.specs.declared.any_phaser.AnyPhaser.{AnyPhaser}
use Rattle.stream_members.specs.declared.any_phaser.AnyPhaser.TheVariants as phaser
use Rattle.stream_members.specs.declared.any_phaser.AnyReg.{AnyReg}
use Rattle.stream_members.specs.declared.any_phaser.AnyReg.TheVariants as reg

-- its operation
abbrev pub phaser_op : AnyPhaser → Op
phaser_op (phaser.Sum p) = Sum
phaser_op (phaser.Product p) = Product
phaser_op (phaser.Least p) = Least
phaser_op (phaser.Greatest p) = Greatest
phaser_op (phaser.Any p) = Any

-- which phaser it is
abbrev pub phaser_spot : AnyPhaser → Spot
phaser_spot (phaser.Sum p) = phaser_lock p
phaser_spot (phaser.Product p) = phaser_lock p
phaser_spot (phaser.Least p) = phaser_lock p
phaser_spot (phaser.Greatest p) = phaser_lock p
phaser_spot (phaser.Any p) = phaser_lock p

-- the operation of the phaser that it is on
abbrev pub reg_op : AnyReg → Op
reg_op (reg.Sum r) = Sum
reg_op (reg.Product r) = Product
reg_op (reg.Least r) = Least
reg_op (reg.Greatest r) = Greatest
reg_op (reg.Any r) = Any

-- the registration as a member
abbrev pub reg_in : AnyReg → MemberState
reg_in (reg.Sum r) = member_state r
reg_in (reg.Product r) = member_state r
reg_in (reg.Least r) = member_state r
reg_in (reg.Greatest r) = member_state r
reg_in (reg.Any r) = member_state r

-- how many sends it holds
abbrev pub sends_held : AnyReg → ℕ
sends_held (reg.Sum r) = r.held.count
sends_held (reg.Product r) = r.held.count
sends_held (reg.Least r) = r.held.count
sends_held (reg.Greatest r) = r.held.count
sends_held (reg.Any r) = r.held.count

-- the founder of a phaser that was just made: it is number 0, and nothing else has come about
abbrev pub founder_at : Spot → MemberState
founder_at at = record {
  at = at;
  number = 0;
  mode = Single;
  seen = Made 0 ∷ [];
}

-- the registration of the phaser's founder, before its first call
pub record IsFounderOf (phaser : AnyPhaser) (reg : AnyReg) : Type 0 where
  pub op : reg_op reg ≡ phaser_op phaser
  pub founder : reg_in reg ≡ founder_at (phaser_spot phaser)
  pub none_held : sends_held reg ≡ 0
