use Rattle.std.proofs.Common.{◌≡◌, length, take, map}
use Rattle.stream_eval.specs.Composing.{HasParts, member_of}
use Rattle.stream_eval.proofs.phases.parts_of.Given as goal

-- the members before this one are added
abbrev pub invariant-loop-member : goal.invariant-loop-member
invariant-loop-member g l =
    HasParts g.A.Accumulate.operation l.parts.items (map member_of (take l.member-index l.members))
    × (length l.parts.items ≡ l.fn.phases)
