-- The only task goes on, and every slot with it.
use Rattle.phase_ring.proofs.Passing.{shifted_kept, shifted_alone}
use Rattle.phase_ring.proofs.board.Board.pass.Goals as goal

pub returns-in-Some-clause-invariant : goal.returns-in-Some-clause-invariant
returns-in-Some-clause-invariant g c =
    let old = c.args.self.now in
    let r = c.requires in
    rw c.shift.ensures (shifted_kept g.A.Accumulate.operation old.ring old.limits.bound old.done old.top r.invariant r.alone r.fresh r.far)

pub returns-in-Some-clause-alone : goal.returns-in-Some-clause-alone
returns-in-Some-clause-alone g c = rw c.shift.ensures (shifted_alone c.args.self.now.ring c.requires.alone)

pub returns-in-None-clause-invariant : goal.returns-in-None-clause-invariant
returns-in-None-clause-invariant g c =
    let old = c.args.self.now in
    let r = c.requires in
    rw c.shift.ensures (shifted_kept g.A.Accumulate.operation old.ring old.limits.bound old.done old.top r.invariant r.alone r.fresh r.far)

pub returns-in-None-clause-alone : goal.returns-in-None-clause-alone
returns-in-None-clause-alone g c = rw c.shift.ensures (shifted_alone c.args.self.now.ring c.requires.alone)
