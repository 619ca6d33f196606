-- No value of the phases that were gone over is too big.
use Rattle.std.proofs.Common.{◌≡◌, ℕ, ◌+◌, ◌<◌, true}
use Rattle.phase_ring.specs.Blocks.{value_at, is_not_too_big}
use Rattle.phase_ring.proofs.board.Board.good_ahead.Given as goal

abbrev pub invariant-loop-i : goal.invariant-loop-i
invariant-loop-i g l =
    (k : ℕ) → k < l.i
    → is_not_too_big (value_at g.A.Accumulate.operation l.fn.self.ring (l.fn.phase + k)) ≡ true
