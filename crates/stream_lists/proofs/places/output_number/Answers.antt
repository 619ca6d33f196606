use Rattle.std.proofs.Common.{arith, ◌==◌, ap, sym, ◌∙◌}
use Rattle.stream_lists.specs.Jobs.{index_in}
use Rattle.stream_lists.proofs.Firsts.{position_from-below}
use Rattle.stream_lists.proofs.places.output_number.Goals as goal

-- the place is one of the line
pub returns-then-ne-clause-turn : goal.returns-then-ne-clause-turn
returns-then-ne-clause-turn c j e is =
    let place = sym (c.place_of.ensures ∙ ap (λ qs. index_in qs c.args.p) c.deref.ensures.value)
    ∙ e in
    let below = position_from-below (λ q. q == c.args.p) 0 c.args.task.now.outputs.items j place in
    omega arith
