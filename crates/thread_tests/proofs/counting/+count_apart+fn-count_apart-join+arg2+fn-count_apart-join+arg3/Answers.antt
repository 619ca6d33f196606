use Rattle.std.proofs.Common.{◌≡◌, ◌-◌, ◌/◌, arith, ap}
use Rattle.thread_tests.specs.Counting.{both}
use Rattle.turn_lock.specs.Seats.{seat_number, seat_view, lock_name}
use Rattle.thread_tests.proofs.Summing.{forks_sum, merges_sum, looks_sum, halves_joined}
use Rattle.thread_tests.proofs.counting.+count_apart+fn-count_apart-join+arg2+fn-count_apart-join+arg3.Goals as goal

-- with more than one part there is one for each half
pub split-left-requires-clause-rule : goal.split-left-requires-clause-rule
split-left-requires-clause-rule g t c =
    forks_sum (lock_name c.args.counter.now) (seat_number c.args.seat) (seat_view c.args.seat) (omega arith)

-- both threads are done, and their seats rest
pub join-requires-clause-merges : goal.join-requires-clause-merges
join-requires-clause-merges g t c =
    let parts : (seat_view c.join-left.result.0).parts ≡ c.args.parts - c.args.parts / 2 = ap (λ v. v.parts) c.join-left.ensures.first.1 in
    merges_sum (lock_name c.args.counter.now) (seat_number c.join-left.result.0) (seat_number c.join-left.result.1)
    (seat_view c.join-left.result.0) (seat_view c.join-left.result.1) (omega arith) (ap (λ v. v.took) c.join-left.ensures.second.1)

-- the look changes nothing
pub join-requires-clause-looks : goal.join-requires-clause-looks
join-requires-clause-looks g t c =
    looks_sum (lock_name c.args.counter.now) (seat_number c.join-left.result.0)
    (both (seat_view c.join-left.result.0) (seat_view c.join-left.result.1))

-- the counts of both halves are the counts of all parts
pub returns-clause-view : goal.returns-clause-view
returns-clause-view g t c =
    halves_joined (seat_view c.args.seat) (seat_view c.split-left.result.0) (seat_view c.split-left.result.1)
    (seat_view c.join-left.result.0) (seat_view c.join-left.result.1) (seat_view c.join.result)
    c.args.parts (c.args.parts / 2) c.args.times (omega arith)
    (ap (λ v. v.count) c.split-left.ensures.left) (ap (λ v. v.count) c.split-left.ensures.right)
    c.join-left.ensures.first.1 c.join-left.ensures.second.1 c.join.ensures.rule
