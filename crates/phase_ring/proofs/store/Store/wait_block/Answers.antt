-- The values of sends are those of the slots that they would have.
use Rattle.std.proofs.Common.{◌+◌, ◌++◌, drop, ap, ◌∙◌, arith}
use Rattle.phase_ring.specs.Stores.{KeepsValues}
use Rattle.phase_ring.proofs.Ones.{values_of_ones}
use Rattle.phase_ring.proofs.store.Store.wait_block.Goals as goal

pub returns-then-self-clause-out : goal.returns-then-self-clause-out
returns-then-self-clause-out g c =
    let op = g.A.Accumulate.operation in
    let store = c.args.self.now in
    let keeps : KeepsValues store = c.requires.invariant.values c.if-self.true in
    let complete = c.requires.may.complete in
    rw c.if-self.true (c.write.ensures ∙ ap (λ xs. xs ++ drop c.args.count c.args.out.now)
    (values_of_ones op (store.board.limits.bound + 1) store.values.base store.values.queue.items
    c.args.phase c.args.count (c.requires.may.values c.if-self.true)
    (omega (arith, keeps.top_is, keeps.done_is))))
