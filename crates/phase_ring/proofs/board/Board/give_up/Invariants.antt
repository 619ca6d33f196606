-- What holds of the board stays, nobody moves, and the slots that are left are the old ones.
use Rattle.std.proofs.Common.{◌-◌, ◌≡◌, ℕ}
use Rattle.phase_ring.specs.Rings.{KeepsSlots, standing}
use Rattle.phase_ring.specs.Boards.{IsRingAt}
use Rattle.phase_ring.specs.declared.role.Role.{Role}
use Rattle.phase_ring.proofs.board.Board.give_up.Given as goal

abbrev pub invariant-loop-self : goal.invariant-loop-self
invariant-loop-self g l =
    IsRingAt g.A.Accumulate.operation l.self.ring l.self.limits.bound l.self.done l.self.top
    × (l.self.done ≡ l.fn.self.done) × (l.self.top ≡ l.fn.self.top)
    × ((role : Role) (p : ℕ) → standing l.self.ring role p ≡ standing l.fn.self.ring role p)
    × KeepsSlots l.fn.self.ring l.self.ring × (l.self.limits ≡ l.fn.self.limits)

abbrev pub decreases-loop-self : goal.decreases-loop-self
decreases-loop-self g l = l.self.done - l.self.ring.base
