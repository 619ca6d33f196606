use Rattle.std.proofs.Common.{arith, ap}
use Rattle.turn_lock.specs.Seats.{word_lock_name}
use Rattle.turn_lock.proofs.WordKeeping.{knows}
use Rattle.turn_lock.proofs.words.WordLock.told_in.Goals as goal

-- while the turn lasts, the lock tells what the seat knows
pub load-found-requires : goal.load-found-requires
load-found-requires g c = (
  ap (λ p. p.0) c.requires,
  (let sized = c.args.self.now.sized in omega arith),
  knows g.R.WordRule.holds (word_lock_name c.args.self.now) c.args.self.now.table.shared.table_id.slots c.args.turn.inner.id c.args.turn.inner.me
      c.args.turn.turns,
)
