use Rattle.std.proofs.Common.{◌≡◌, [], length}
use Rattle.stream_eval.specs.Composing.{HasParts}
use Rattle.stream_eval.proofs.phases.no_sends.Given as goal

abbrev pub invariant-loop-phase : goal.invariant-loop-phase
invariant-loop-phase g l = HasParts g.A.Accumulate.operation l.parts.items []
    × (length l.parts.items ≡ l._phase)
