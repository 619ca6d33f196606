-- The values of sends are those of the slots that they would have.
use Rattle.std.proofs.Common.{◌+◌, length, ap, ◌∙◌, arith}
use Rattle.std.specs.List.{take_while}
use Rattle.phase_ring.specs.Blocks.{is_not_too_big}
use Rattle.phase_ring.specs.Stores.{KeepsValues}
use Rattle.phase_ring.proofs.Ones.{values_of_ones}
use Rattle.phase_ring.proofs.store.Store.good_ahead.Goals as goal

pub returns-then-self : goal.returns-then-self
returns-then-self g c =
    let op = g.A.Accumulate.operation in
    let store = c.args.self.now in
    let keeps : KeepsValues store = c.requires.invariant.values c.if-self.true in
    let complete = c.requires.may.complete in
    rw c.if-self.true (c.good_from.ensures ∙ ap (λ xs. length (take_while is_not_too_big xs))
    (values_of_ones op (store.board.limits.bound + 1) store.values.base store.values.queue.items
    c.args.phase c.args.most (c.requires.may.values c.if-self.true)
    (omega (arith, keeps.top_is, keeps.done_is))))
