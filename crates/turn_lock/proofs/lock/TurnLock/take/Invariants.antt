use Rattle.turn_lock.specs.Seats.{IsSameSeat}
use Rattle.turn_lock.proofs.lock.TurnLock.take.Given as goal

-- the same seat came back each time
abbrev pub invariant-loop : goal.invariant-loop
invariant-loop g l = IsSameSeat l.initial.seat l.seat
