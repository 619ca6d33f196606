use Rattle.std.proofs.Common.{rules, arith, sym, ◌∙◌, Bor, []}
use Rattle.phase_base.specs.Words.{Word}
use Rattle.phase_base.specs.Numbers.{is_int}
use Rattle.graph_text.proofs.Fronts.{front-more, front-ends, front-all}
use Rattle.graph_text.proofs.read.ints_in_front.Goals as goal

abbrev nowhere : Bor Word
nowhere = record { ref_ptr = (0, 0); now = [] }

-- the word in front does not pass
pub returns-then-not-is_int-clause-count : goal.returns-then-not-is_int-clause-count
returns-then-not-is_int-clause-count c =
    let before = c.loop-word.invariant in
    let stop = front-ends is_int c.args.words.now c.loop-word.word-index nowhere
    c.loop-word-test.true (sym c.is_int.ensures ∙ c.if-not-is_int.true) in
    omega (arith, before.front, stop)

-- there are no more words than fit
pub overflow_add-count : goal.overflow_add-count
overflow_add-count c =
    let before = c.loop-word.invariant in
    let count = before.count in
    let below = c.loop-word-test.true in
    search rules

-- the word in front passes
pub loop-word-preserved : goal.loop-word-preserved
loop-word-preserved c =
    let before = c.loop-word.invariant in
    let more = front-more is_int c.args.words.now c.loop-word.word-index nowhere
    c.loop-word-test.true (sym c.is_int.ensures ∙ c.if-not-is_int.false) in
    record { count = omega (arith, before.count); front = omega (arith, before.front, more) }

-- no word is left
pub returns-clause-count : goal.returns-clause-count
returns-clause-count c =
    let before = c.loop-word.invariant in
    let none = front-all is_int c.args.words.now c.loop-word.word-index
    (omega (arith, c.loop-word-test.false)) in
    omega (arith, before.front, none)
