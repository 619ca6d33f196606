-- What is behind a handle after a call.
use Rattle.std.proofs.Common.{Option, Some, None}
use Rattle.shared_handle.specs.AnyMembers.{StillHas}
use Rattle.shared_handle.specs.declared.any_member.AnyMember.{AnyMember}

-- the same of a registration in other words
pub StillHas-map : (o : Option AnyMember) (P Q : AnyMember → Type 0) → ((n : AnyMember) → P n → Q n)
    → StillHas o P → StillHas o Q
StillHas-map None P Q f told = told
StillHas-map (Some n) P Q f told = f n told
