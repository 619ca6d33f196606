use Rattle.turn_lock.specs.Seats.{lock_name, seat_number, seat_view}
use Rattle.turn_lock.proofs.Wordless.{forks}
use Rattle.turn_lock.proofs.lock.TurnLock.split.Goals as goal

pub split-requires-clause-rule : goal.split-requires-clause-rule
split-requires-clause-rule g c = forks g.R.TurnRule.holds (lock_name c.args.self.now) (seat_number c.args.seat) (seat_view c.args.seat) _ _ c.requires.rule
