use Rattle.std.proofs.Common.{arith, ap}
use Rattle.turn_lock.proofs.WordKeeping.{splits}
use Rattle.turn_lock.proofs.words.WordLock.split.Goals as goal

-- the seat rests, so the turn stays where it is
pub split_seat-other-requires : goal.split_seat-other-requires
split_seat-other-requires g c = (
  ap (λ p. p.0) c.requires.seat,
  (let sized = c.args.self.now.sized in omega arith),
  splits g.R.WordRule.holds c.args.self.now.table.shared.key c.args.seat.inner.id c.args.seat.inner.me.0 _ _ c.args.seat.rests.0 c.requires.rule,
)
