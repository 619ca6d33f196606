use Rattle.turn_lock.specs.Seats.{seat_number, seat_view, lock_name}
use Rattle.thread_tests.proofs.Summing.{takes_sum, not_busy}
use Rattle.thread_tests.proofs.counting.try_add_one.Goals as goal

-- the seat has a part of the right to know the sum
pub try_take-requires-clause-rule : goal.try_take-requires-clause-rule
try_take-requires-clause-rule c =
    takes_sum (lock_name c.args.counter.now) (seat_number c.args.seat) (seat_view c.args.seat) c.requires.part

-- beside a seat with all parts there is none that could have the turn
pub returns-in-Err-clause-alone : goal.returns-in-Err-clause-alone
returns-in-Err-clause-alone c whole none = absurd (not_busy _ _ c.in-Err.ensures.busy whole none)
