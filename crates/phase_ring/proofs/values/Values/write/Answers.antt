-- The values lie in two slices.
use Rattle.std.proofs.Common.{◌-◌, sym, subst, arith}
use Rattle.phase_accum.proofs.Parts.{AreSends-append_left, AreSends-append_right, AreSends-take, AreSends-drop}
use Rattle.phase_accum.specs.Sends.{AreSends}
use Rattle.phase_ring.specs.Restarts.{plain_value}
use Rattle.phase_ring.proofs.TwoSlices.{written_in_two}
use Rattle.phase_ring.proofs.values.Values.write.Goals as goal

pub write_ones-requires-clause-sends : goal.write_ones-requires-clause-sends
write_ones-requires-clause-sends g c =
    let front = c.as_slices.result.0.now in
    AreSends-take _ _ (AreSends-take _ _ (AreSends-drop _ front (AreSends-append_left front
    c.as_slices.result.1.now (subst AreSends (sym c.as_slices.ensures) c.requires.sends))))

pub write_ones-requires-2-clause-sends : goal.write_ones-requires-2-clause-sends
write_ones-requires-2-clause-sends g c =
    let back = c.as_slices.result.1.now in
    AreSends-take _ _ (AreSends-take _ _ (AreSends-drop _ back (AreSends-append_right
    c.as_slices.result.0.now back (subst AreSends (sym c.as_slices.ensures) c.requires.sends))))

pub returns : goal.returns
returns g c =
    let low = c.requires.low in
    written_in_two c.as_slices.result.0.now c.as_slices.result.1.now c.args.self.now.queue.items
    (c.args.phase - c.args.self.now.base) c.args.count c.min-in_front.result c.min-many.result
    c.as_slices.ensures c.min-in_front.ensures (omega (arith, c.requires.complete))
    c.min-many.ensures (plain_value g.A.Accumulate.operation) c.args.out.now c.write_ones.new.out
    c.write_ones-2.new.out c.requires.room c.write_ones.ensures c.write_ones-2.ensures
