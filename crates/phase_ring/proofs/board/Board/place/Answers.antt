-- One role after the other.
use Rattle.std.proofs.Common.{ap, arith}
use Rattle.phase_ring.specs.declared.role.Role.TheVariants.{Signaller, Waiter}
use Rattle.phase_ring.proofs.board.Board.place.Goals as goal

pub place_as-requires-clause-place : goal.place_as-requires-clause-place
place_as-requires-clause-place g c = c.requires.place Signaller

pub place_as-requires-2-clause-place : goal.place_as-requires-2-clause-place
place_as-requires-2-clause-place g c takes =
    let may = c.requires.place Waiter takes in
    let base = ap (λ r. r.base) c.place_as.ensures.same in (
      omega (arith, may.0, base),
      omega (arith, may.1, c.place_as.ensures.keeps.done),
    )
