use Rattle.std.proofs.Common.{◌≡◌, ◌<◌, ◌∷◌, [], ◌++◌, List, length}
use Rattle.phase_base.specs.declared.limits.TheConstants.{SENDS_MAX}
use Rattle.stream_lists.specs.Lists.{Contribution}
use Rattle.stream_eval.specs.Composing.{HasParts}
use Rattle.stream_eval.proofs.Sends.{front}
use Rattle.stream_eval.proofs.phases.add_member.Given as goal

-- the values before this one are sent
abbrev pub invariant-loop-i : goal.invariant-loop-i
invariant-loop-i g l =
    (length l.parts ≡ length l.fn.parts)
    × ((members : List Contribution) → HasParts g.A.Accumulate.operation l.fn.parts members
    → length members < SENDS_MAX
    → HasParts g.A.Accumulate.operation l.parts
    (members ++ front l.member.offset l.member.values.items l.i ∷ []))
