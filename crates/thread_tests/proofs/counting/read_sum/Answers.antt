use Rattle.std.proofs.Common.{◌≡◌, ℕ, ◌<◌, Some, arith, ap, sym, ◌∙◌}
use Rattle.turn_lock.specs.Seats.{seat_number, seat_view, turn_number, turn_view, lock_name}
use Rattle.thread_tests.proofs.Summing.{takes_sum, gives_sum}
use Rattle.thread_tests.proofs.counting.read_sum.Goals as goal

-- the seat has a part of the right to know the sum
pub take-turn-requires-clause-rule : goal.take-turn-requires-clause-rule
take-turn-requires-clause-rule g c =
    takes_sum (lock_name c.args.counter.now) (seat_number c.args.seat) (seat_view c.args.seat) c.requires.part

-- the turn took the sum, and what it gives is that sum with what it counted since
pub give-requires-clause-rule : goal.give-requires-clause-rule
give-requires-clause-rule g c =
    let turn = c.take-turn.result in
    let view = turn_view turn in
    let x : ℕ = c.value-value.result.now in
    let took = c.take-turn.ensures.rule.0 in
    let parts : view.parts ≡ (seat_view c.args.seat).parts = ap (λ v. v.parts) took in
    let part : 0 < (seat_view c.args.seat).parts = c.requires.part in
    gives_sum (lock_name c.args.counter.now) (turn_number turn) view x _ (view.count) (omega arith)
    (ap (λ v. v.took) took ∙ ap (λ n. Some n) (sym c.value-value.ensures.value)) (omega arith) (omega arith)
