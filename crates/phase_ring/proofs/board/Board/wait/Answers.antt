-- The waiter goes on to the next phase.
use Rattle.std.proofs.Common.{◌<◌, arith}
use Rattle.phase_ring.specs.declared.role.Role.TheVariants.{Waiter}
use Rattle.phase_ring.proofs.Slots.{sealed-low}
use Rattle.phase_ring.proofs.Kept.{standing-within}
use Rattle.phase_ring.proofs.board.Board.wait.Goals as goal

pub value-outcome-requires : goal.value-outcome-requires
value-outcome-requires g c =
    let old = c.args.self.now in
    let op = g.A.Accumulate.operation in
    let may = c.requires.may in
    let complete : c.args.phase < old.done = (let m = may.complete in omega arith) in
    let within = standing-within old.ring Waiter c.args.phase may.stands in
    record { within = within; complete = sealed-low op old.ring old.limits.bound old.done old.top c.args.phase c.requires.invariant within complete }

pub overflow_add-phase : goal.overflow_add-phase
overflow_add-phase g c =
    let kept = c.requires.invariant in
    omega (arith, kept.done_top, kept.top_far, c.requires.may.complete)
