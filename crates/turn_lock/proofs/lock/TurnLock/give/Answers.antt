use Rattle.turn_lock.specs.Seats.{lock_name, turn_number, turn_view, turn_value, turn_told}
use Rattle.turn_lock.proofs.Wordless.{gives}
use Rattle.turn_lock.proofs.lock.TurnLock.give.Goals as goal

pub give-requires-clause-rule : goal.give-requires-clause-rule
give-requires-clause-rule g c =
    gives g.R.TurnRule.holds (lock_name c.args.self.now) (turn_number c.args.turn) (turn_view c.args.turn) (turn_value c.args.turn)
    (turn_told c.args.turn) c.args.told (g.M.Tells.then (lock_name c.args.self.now)) c.requires.rule
