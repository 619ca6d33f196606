use Rattle.std.proofs.Common.{◌≡◌, rules, arith, is_some, ◌∙◌, sym, ap, Bor, [], ◌++◌, ◌∷◌, false, take, get_or, map, FitsSigned, w64, to_z-of_z}
use Rattle.std.proofs.lemmas.Option.{cond_some}
use Rattle.phase_base.specs.Words.{Word}
use Rattle.graph_text.specs.Plain.{plain}
use Rattle.phase_base.specs.Numbers.{is_int, int_value}
use Rattle.graph_lang.specs.Faults.{is_tap_within}
use Rattle.graph_lang.proofs.Alls.{is_some-if, words-all, words-end, words-first, words-pass, words-more, words-stop}
use Rattle.graph_lang.proofs.within.taps_of.Goals as goal

abbrev nowhere : Bor Word
nowhere = record { ref_ptr = (0, 0); now = [] }

-- each word that is left is a number
pub tap_of-requires : goal.tap_of-requires
tap_of-requires c =
    (words-first is_int c.args.words.now c.loop-word.word-index nowhere c.loop-word-test.true
    c.loop-word.invariant.ints).0

-- a word is no tap
pub returns-in_default-clause-within : goal.returns-in_default-clause-within
returns-in_default-clause-within c =
    let xs = c.args.words.now in
    let i = c.loop-word.word-index in
    let word = (get_or xs i nowhere).now in
    let stop : is_tap_within word ≡ false =
    sym (is_some-if (is_tap_within word) (int_value word))
    ∙ ap is_some (sym c.tap_of.ensures ∙ c.in_default.is) in
    sym (c.loop-word.invariant.rest ∙ words-stop is_tap_within xs i nowhere c.loop-word-test.true stop)

-- all of them were
pub returns-clause-within : goal.returns-clause-within
returns-clause-within c =
    sym (c.loop-word.invariant.rest
    ∙ words-end is_tap_within c.args.words.now c.loop-word.word-index c.loop-word-test.false)

pub returns-clause-taps : goal.returns-clause-taps
returns-clause-taps c =
    c.loop-word.invariant.made ∙ words-all int_value c.args.words.now c.loop-word.word-index
    (omega (arith, c.loop-word.auto.word-index-end, c.loop-word-test.false))

-- one word more is a tap, and its number is behind the others
pub loop-word-preserved : goal.loop-word-preserved
loop-word-preserved c =
    let xs = c.args.words.now in
    let i = c.loop-word.word-index in
    let lt = c.loop-word-test.true in
    let before = c.loop-word.invariant in
    let word = (get_or xs i nowhere).now in
    let tap = c.in-Some.tap in
    let read = cond_some (is_tap_within word) (int_value word) tap (sym c.tap_of.ensures ∙ c.in-Some.is) in
    let fits : FitsSigned w64 tap = search rules in
    let pushed = rw (to_z-of_z fits) at c.in_ok-push.ensures.items in
    record {
      ints = (words-first is_int xs i nowhere lt before.ints).1;
      rest = before.rest ∙ words-pass is_tap_within xs i nowhere lt read.0;
      made = pushed
          ∙ ap (λ made. made ++ tap ∷ []) before.made
          ∙ ap (λ n. map int_value (plain (take i xs)) ++ n ∷ []) (sym read.1)
          ∙ sym (words-more int_value xs i nowhere lt);
    }
