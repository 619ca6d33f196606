-- What a slot owns.
use Rattle.std.specs.Prelude.{Option, Some, None}
use mir.Syntax.{Ty}
use base.Fml.{Fml, ftrue}
use denote.RattleType.{RattleType}
use denote.RawPtr.{Ptr}
use Rattle.std.specs.Box.Ownership.{box_owns}

-- nothing, or the value behind the pointer and the right to give its block back
abbrev pub slot_owns : (Ty → Ptr → Fml) → (R : RattleType) → Ptr → Option R.Denot → Fml
slot_owns right R p None = ftrue
slot_owns right R p (Some x) = box_owns right R p x
