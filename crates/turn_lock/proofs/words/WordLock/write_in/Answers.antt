use Rattle.std.proofs.Common.{arith, ap}
use Rattle.turn_lock.specs.Seats.{word_lock_name}
use Rattle.turn_lock.proofs.WordKeeping.{writes_in}
use Rattle.turn_lock.proofs.words.WordLock.write_in.Goals as goal

-- the rule's words lie behind the lock's
pub swap-requires : goal.swap-requires
swap-requires g c = (
  ap (λ p. p.0) c.requires.turn,
  (let sized = c.args.self.now.sized in let below = c.requires.place in omega arith),
  writes_in g.R.WordRule.holds (word_lock_name c.args.self.now) c.args.self.now.table.shared.table_id.slots c.args.turn.inner.id c.args.turn.inner.me
      _ c.args.place c.args.word g.L.Learns.then (omega arith) c.args.turn.turns (ap (λ p. p.1) c.requires.turn) c.requires.rule,
)
