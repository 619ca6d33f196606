use Rattle.std.proofs.lemmas.Result.{on_err_weaker}
use Rattle.turn_lock.specs.Seats.{lock_name, seat_number, seat_view}
use Rattle.turn_lock.proofs.Wordless.{takes, busy}
use Rattle.turn_lock.proofs.lock.TurnLock.try_take.Goals as goal

pub try_take-requires-clause-rule : goal.try_take-requires-clause-rule
try_take-requires-clause-rule g c = takes g.R.TurnRule.holds (lock_name c.args.self.now) (seat_number c.args.seat) (seat_view c.args.seat) (g.M.Tells.then (lock_name c.args.self.now)) c.requires.rule

pub returns-clause-busy : goal.returns-clause-busy
returns-clause-busy g c = on_err_weaker c.try_take.result (busy g.R.TurnRule.holds (lock_name c.args.self.now) (seat_view c.args.seat)) c.try_take.ensures.busy
