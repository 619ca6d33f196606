use Rattle.std.proofs.Common.{arith, ap}
use Rattle.turn_lock.specs.Seats.{word_lock_name, turn_value}
use Rattle.turn_lock.proofs.Keeping.{alone_is}
use Rattle.turn_lock.proofs.WordKeeping.{gives_back}
use Rattle.turn_lock.proofs.words.WordLock.give.Goals as goal

-- the value lies in the slot, as the turn left it
pub swap-requires : goal.swap-requires
swap-requires g c = (
  ap (λ p. p.0) c.requires.turn,
  (let sized = c.args.self.now.sized in omega arith),
  gives_back g.R.WordRule.holds (word_lock_name c.args.self.now) _ c.args.turn.inner.id c.args.told c.args.turn.inner.me
      (turn_value c.args.turn) g.M.Tells.then (alone_is c.args.turn.inner.me.1 c.args.turn.out)
      c.args.turn.turns (ap (λ p. p.1) c.requires.turn) c.requires.rule,
)
