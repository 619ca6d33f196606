use Rattle.std.proofs.Common.{◌≤◌, [], length}
use Rattle.phase_core.proofs.SignalRows.{held_next}
use Rattle.phase_ring.proofs.Blocks.{drop-all}
use Rattle.phase_shared.proofs.seats.block_steps.are_held.Goals as goal

pub loop-pending-init : goal.loop-pending-init
loop-pending-init g c rest stand = (rest, stand)

pub loop-pending-preserved : goal.loop-pending-preserved
loop-pending-preserved g c =
    held_next g.A.Accumulate.operation c.args.lists.now c.pending-item.result c.part-part.ensures.held.0 c.loop-pending.pending-index _ c.loop-pending.invariant
    c.loop-pending-test.true c.pending-item.is c.part-part.ensures.held.1

pub returns-clause-held : goal.returns-clause-held
returns-clause-held g c =
    let past : length c.args.lists.now ≤ c.loop-pending.pending-index = c.loop-pending-test.false in
    c.loop-pending.invariant [] (rw (drop-all c.args.lists.now c.loop-pending.pending-index past) tt)
