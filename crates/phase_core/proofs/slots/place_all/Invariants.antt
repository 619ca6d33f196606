-- Those before this one stand at their phases.
use Rattle.std.proofs.Common.{◌≡◌, ℕ}
use Rattle.std.specs.Prelude.{take}
use Rattle.phase_ring.specs.declared.role.Role.{Role}
use Rattle.phase_ring.specs.Boards.{IsBoard}
use Rattle.phase_ring.specs.Calls.{KeepsBounds}
use Rattle.phase_ring.specs.Rings.{sents, standing}
use Rattle.phase_ring.specs.Standings.{count_of}
use Rattle.phase_core.proofs.MemberCounts.{phases_of}
use Rattle.phase_core.proofs.slots.place_all.Given as goal

abbrev pub invariant-loop-member : goal.invariant-loop-member
invariant-loop-member g l =
    IsBoard g.A.Accumulate.operation l.board
    × KeepsBounds l.fn.board l.board
    × (sents l.board.ring ≡ sents l.fn.board.ring)
    × ((role : Role) (p : ℕ) → standing l.board.ring role p
    ≡ count_of p (phases_of role (take l.member-index l.members)))
