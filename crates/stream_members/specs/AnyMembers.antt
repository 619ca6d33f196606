-- A member under one of the five operations, as contracts see it.
use Rattle.std.specs.Prelude.{◌≡◌, ℕ, length, Result, Ok, Err}
use Rattle.phase_base.specs.declared.mode.Mode.{Mode}
use Rattle.phase_base.specs.declared.operation.Op.{Op}
use Rattle.phase_base.specs.declared.operation.Op.TheVariants.{Sum, Product, Least, Greatest, Any}
use Rattle.phase_history.specs.declared.refusal.RegisterRefusal.{RegisterRefusal}
use Rattle.stream_members.specs.Members.{MemberState, LeftState, Adds, AddsNow}
use Rattle.stream_members.specs.declared.any_member.AnyMember.{AnyMember}
use Rattle.stream_members.specs.declared.any_member.AnyMember.TheVariants as member
use Rattle.stream_members.specs.declared.any_left.AnyLeft.{AnyLeft}
use Rattle.stream_members.specs.declared.any_left.AnyLeft.TheVariants as left
use Rattle.stream_members.specs.declared.places.Places.{Places}
use Rattle.stream_members.specs.declared.places.Places.TheVariants as places

-- the operation of its phaser
abbrev pub member_op : AnyMember → Op
member_op (member.Sum m) = Sum
member_op (member.Product m) = Product
member_op (member.Least m) = Least
member_op (member.Greatest m) = Greatest
member_op (member.Any m) = Any

-- the member, whatever its operation
abbrev pub member_in : AnyMember → MemberState
member_in (member.Sum m) = m
member_in (member.Product m) = m
member_in (member.Least m) = m
member_in (member.Greatest m) = m
member_in (member.Any m) = m

-- the operation of the phaser that it left
abbrev pub left_op : AnyLeft → Op
left_op (left.Sum l) = Sum
left_op (left.Product l) = Product
left_op (left.Least l) = Least
left_op (left.Greatest l) = Greatest
left_op (left.Any l) = Any

-- what it has seen, whatever its operation
abbrev pub left_in : AnyLeft → LeftState
left_in (left.Sum l) = l
left_in (left.Product l) = l
left_in (left.Least l) = l
left_in (left.Greatest l) = l
left_in (left.Any l) = l

-- a child on the same phaser, or the refusal
abbrev pub AddsAny : Mode → AnyMember → AnyMember → Result AnyMember RegisterRefusal → Type 0
AddsAny mode old new (Ok child) =
    Adds mode (member_in old) (member_in new) (Ok (member_in child))
    × (member_op child ≡ member_op old)
AddsAny mode old new (Err refusal) = Adds mode (member_in old) (member_in new) (Err refusal)

-- how many places there are for sends of this operation
abbrev pub room_for : Op → Places → ℕ
room_for Sum (places.Sum those) = length those.items
room_for Product (places.Product those) = length those.items
room_for Least (places.Least those) = length those.items
room_for Greatest (places.Greatest those) = length those.items
room_for Any (places.Any those) = length those.items
room_for op those = 0

-- a child that joins now on the same phaser, with its start, or the refusal
abbrev pub AddsAnyNow : AnyMember → AnyMember → Result (AnyMember × ℕ) RegisterRefusal → Type 0
AddsAnyNow old new (Ok child) =
    AddsNow (member_in old) (member_in new) (Ok (member_in child.0, child.1))
    × (member_op child.0 ≡ member_op old)
AddsAnyNow old new (Err refusal) = AddsNow (member_in old) (member_in new) (Err refusal)
