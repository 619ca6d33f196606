use Rattle.std.proofs.Common.{ℕ, ◌+◌, Some, arith, ap, sym, ◌∙◌}
use Rattle.turn_lock.specs.Seats.{turn_number, turn_view, lock_name}
use Rattle.thread_tests.proofs.Summing.{gives_sum}
use Rattle.thread_tests.proofs.counting.add_to.Goals as goal

-- what is given is the sum that was taken, and one more
pub give-requires-clause-rule : goal.give-requires-clause-rule
give-requires-clause-rule c =
    let view = turn_view c.args.turn in
    let x : ℕ = c.value-value.result.now in
    gives_sum (lock_name c.args.counter.now) (turn_number c.args.turn) view x _ (view.count + 1) c.requires.part
    (c.requires.took ∙ ap (λ n. Some n) (sym c.value-value.ensures.value)) (omega arith) (omega arith)
