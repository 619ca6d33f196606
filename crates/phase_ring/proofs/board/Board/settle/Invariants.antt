-- What holds of the board stays, and only which slots are sealed changes.
use Rattle.std.proofs.Common.{◌-◌, ◌≡◌, ℕ}
use Rattle.phase_ring.specs.Rings.{sents, standing}
use Rattle.phase_ring.specs.Boards.{IsRingAt}
use Rattle.phase_ring.specs.declared.role.Role.{Role}
use Rattle.phase_ring.proofs.board.Board.settle.Given as goal

abbrev pub invariant-loop-self : goal.invariant-loop-self
invariant-loop-self g l =
    IsRingAt g.A.Accumulate.operation l.self.ring l.self.limits.bound l.self.done l.self.top
    × (l.self.top ≡ l.fn.self.top) × (sents l.self.ring ≡ sents l.fn.self.ring)
    × ((role : Role) (p : ℕ) → standing l.self.ring role p ≡ standing l.fn.self.ring role p)
    × (l.self.limits ≡ l.fn.self.limits)

abbrev pub decreases-loop-self : goal.decreases-loop-self
decreases-loop-self g l = l.self.top - l.self.done
