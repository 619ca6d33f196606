use Rattle.std.proofs.Common.{◌∙◌, sym, arith, Bor, []}
use Rattle.std.specs.Str.{bytes_eq}
use Rattle.phase_base.specs.Words.{Word}
use Rattle.graph_lang.proofs.Alls.{words-found, words-missed, words-none}
use Rattle.graph_lang.proofs.body.contains.Goals as goal

abbrev nowhere : Bor Word
nowhere = record { ref_ptr = (0, 0); now = [] }

pub returns-then-eq : goal.returns-then-eq
returns-then-eq c = sym (c.loop-other.invariant
    ∙ words-found (bytes_eq c.args.word.now) c.args.words.now c.loop-other.other-index nowhere
    c.loop-other-test.true (sym c.eq.ensures ∙ c.if-eq.true))

pub loop-other-preserved : goal.loop-other-preserved
loop-other-preserved c = c.loop-other.invariant
    ∙ words-missed (bytes_eq c.args.word.now) c.args.words.now c.loop-other.other-index nowhere
    c.loop-other-test.true (sym c.eq.ensures ∙ c.if-eq.false)

pub returns : goal.returns
returns c = sym (c.loop-other.invariant
    ∙ words-none (bytes_eq c.args.word.now) c.args.words.now c.loop-other.other-index
    (omega (arith, c.loop-other-test.false)))
