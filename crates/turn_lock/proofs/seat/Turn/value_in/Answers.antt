use Rattle.std.proofs.Common.{ap}
use Rattle.turn_lock.specs.Seats.{turn_value}
use Rattle.turn_lock.proofs.Keeping.{alone_first}
use Rattle.turn_lock.proofs.seat.Turn.value_in.Goals as goal

-- the slot is out with the turn
pub slot_mut-requires : goal.slot_mut-requires
slot_mut-requires g c = (
  ap (λ p. p.0) c.requires,
  (turn_value c.args.self.now, alone_first c.args.self.now.inner.me.1 c.args.self.now.out),
)
