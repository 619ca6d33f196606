use Rattle.turn_lock.specs.Seats.{seat_number, seat_view, lock_name}
use Rattle.thread_tests.proofs.Summing.{takes_sum}
use Rattle.thread_tests.proofs.counting.add_one.Goals as goal

-- the seat has a part of the right to know the sum
pub take-turn-requires-clause-rule : goal.take-turn-requires-clause-rule
take-turn-requires-clause-rule g c =
    takes_sum (lock_name c.args.counter.now) (seat_number c.args.seat) (seat_view c.args.seat) c.requires.part
