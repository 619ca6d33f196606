-- The lists stand in the order of the numbers, and what was received stays.
use Rattle.std.proofs.Common.{[], ◌∷◌, ◌++◌, ap, ◌∙◌}
use Rattle.phase_received.proofs.Lists.{joined_lists}
use Rattle.phase_received.proofs.receipts.Receipts.join.Goals as goal

pub invariant_of-result : goal.invariant_of-result
invariant_of-result g c =
    let op = g.A.Accumulate.operation in
    let both = c.join.result in
    let one = c.one.inside.past in
    let other = c.other.inside.past in
    joined_lists op (λ list. list.items) one other both c.one.inside.first.items c.other.inside.first c.one.inside.others.items
    c.other.inside.others.items c.append.new.self.items c.one.invariant c.other.invariant
    (c.in-Ok.ensures.items ∙ ap (λ lists. lists ++ c.other.inside.others.items) (c.push_reserved.ensures.items
    ∙ ap (λ lists. lists ++ c.other.inside.first ∷ []) c.reserve.ensures.items))
    (c.parts_stay.ensures.lists op.value one.numbers one.seen both.seen c.join.ensures.first)
    (c.parts_stay.ensures.lists op.value other.numbers other.seen both.seen c.join.ensures.second)
    c.join.ensures.numbers
