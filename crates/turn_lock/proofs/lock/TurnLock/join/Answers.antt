use Rattle.turn_lock.specs.Seats.{lock_name, seat_number, seat_view}
use Rattle.turn_lock.proofs.Wordless.{merges, looks}
use Rattle.turn_lock.proofs.lock.TurnLock.join.Goals as goal

pub join-requires-clause-merges : goal.join-requires-clause-merges
join-requires-clause-merges g c =
    merges g.R.TurnRule.holds (lock_name c.args.self.now) (seat_number c.args.seat) (seat_view c.args.seat) (seat_number c.args.other) (seat_view c.args.other) _ _ c.requires.merges

pub join-requires-clause-looks : goal.join-requires-clause-looks
join-requires-clause-looks g c =
    looks g.R.TurnRule.holds (lock_name c.args.self.now) (seat_number c.args.seat) (g.M.Join.both (seat_view c.args.seat) (seat_view c.args.other))
    (g.L.Learns.then (lock_name c.args.self.now)) c.requires.looks
