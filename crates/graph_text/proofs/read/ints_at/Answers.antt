use Rattle.std.proofs.Common.{sym, ◌∙◌}
use Rattle.graph_text.specs.Plain.{plain}
use Rattle.phase_base.specs.Numbers.{is_int}
use Rattle.graph_text.proofs.Fronts.{some_at-none, some_at-split}
use Rattle.graph_text.proofs.read.ints_at.Goals as goal

-- no word passes
pub returns-then-count-eq0 : goal.returns-then-count-eq0
returns-then-count-eq0 c =
    let none = sym c.ints_in_front-count.ensures.count ∙ c.if-count-eq0.true in
    sym (some_at-none is_int (plain c.args.words.now) none)

-- the words that pass were split off
pub returns-else-count-eq0 : goal.returns-else-count-eq0
returns-else-count-eq0 c =
    rw (c.split_at.ensures.front, c.split_at.ensures.back)
    (sym (some_at-split is_int c.args.words.now c.ints_in_front-count.result
    c.ints_in_front-count.ensures.count c.if-count-eq0.false))
