use Rattle.std.proofs.Common.{arith, ap}
use Rattle.turn_lock.proofs.WordKeeping.{looks}
use Rattle.turn_lock.proofs.words.WordLock.look.Goals as goal

-- half of the lock's word is what it tells
pub load-found-requires : goal.load-found-requires
load-found-requires g c = (
  ap (λ p. p.0) c.requires.seat,
  (let sized = c.args.self.now.sized in omega arith),
  looks g.R.WordRule.holds c.args.self.now.table.shared.key c.args.self.now.table.shared.table_id.slots c.args.seat.inner.id c.args.seat.inner.me
      g.M.Reads.then (ap (λ p. p.1) c.requires.seat) c.requires.rule,
)
