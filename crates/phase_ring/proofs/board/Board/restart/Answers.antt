-- The ring has one send a phase.
use Rattle.std.proofs.Common.{◌≡◌, ◌≤◌, ◌++◌, ◌+◌, length, refl, ap, ◌∙◌, arith, length-append}
use Rattle.phase_ring.specs.Restarts.{ring_of_ones}
use Rattle.phase_ring.proofs.Restarted.{ones_kept, ones_standing}
use Rattle.phase_ring.proofs.board.Board.restart.Given.{Over}
use Rattle.phase_ring.proofs.board.Board.restart.Goals as goal
use Rattle.phase_ring.proofs.board.Board.restart.Goals.{After-restart}

ring_is : (g : Over) (c : After-restart g) → c.restart.new.self
    ≡ ring_of_ones g.A.Accumulate.operation (c.args.self.now.limits.bound + 1) c.args.base
    (c.args.front.now ++ c.args.back.now)
ring_is g c =
    c.restart.ensures
    ∙ ap (λ n. ring_of_ones g.A.Accumulate.operation n c.args.base
    (c.args.front.now ++ c.args.back.now)) c.requires.long

near : (g : Over) (c : After-restart g)
    → length (c.args.front.now ++ c.args.back.now) ≤ c.args.self.now.limits.bound
near g c = omega (arith, length-append c.args.front.now c.args.back.now, c.requires.near)

pub returns-clause-invariant : goal.returns-clause-invariant
returns-clause-invariant g c =
    let here = (goal.at.returns-clause-invariant g c).After-restart in
    let values = c.args.front.now ++ c.args.back.now in
    let top = c.args.base + length c.args.front.now + length c.args.back.now in
    let long = length-append c.args.front.now c.args.back.now in
    ones_kept g.A.Accumulate.operation c.args.self.now.limits.bound c.args.base values
    c.restart.new.self (ring_is g here) (near g here) top top (omega (arith, long)) refl
    c.requires.far

pub returns-clause-standing : goal.returns-clause-standing
returns-clause-standing g c role p =
    let here = (goal.at.returns-clause-standing g c).After-restart in
    ones_standing g.A.Accumulate.operation c.args.self.now.limits.bound c.args.base
    (c.args.front.now ++ c.args.back.now) c.restart.new.self (ring_is g here) (near g here) role p
