use Rattle.std.proofs.Common.{◌≡◌, ◌+◌, None}
use Rattle.thread_tests.specs.Counting.{tally}
use Rattle.turn_lock.specs.Seats.{seat_place, seat_view}
use Rattle.thread_tests.proofs.counting.count_up.Given as goal

-- the seat of the same lock has counted once for each turn so far
abbrev pub invariant-loop-i : goal.invariant-loop-i
invariant-loop-i g l =
    (seat_place l.seat ≡ seat_place l.initial.seat)
    × (seat_view l.seat ≡ tally (seat_view l.initial.seat).parts ((seat_view l.initial.seat).count + l.i) None)
