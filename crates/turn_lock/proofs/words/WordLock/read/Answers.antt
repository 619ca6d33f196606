use Rattle.std.proofs.Common.{arith, ap}
use Rattle.turn_lock.proofs.WordKeeping.{reads}
use Rattle.turn_lock.proofs.words.WordLock.read.Goals as goal

-- the rule's words lie behind the lock's
pub load-found-requires : goal.load-found-requires
load-found-requires g c = (
  ap (λ p. p.0) c.requires.seat,
  (let sized = c.args.self.now.sized in let below = c.requires.place in omega arith),
  reads g.R.WordRule.holds c.args.self.now.table.shared.key c.args.self.now.table.shared.table_id.slots c.args.seat.inner.id c.args.seat.inner.me
      _ c.args.place g.M.Reads.then (omega arith) (ap (λ p. p.1) c.requires.seat) c.requires.rule,
)
