use Rattle.std.proofs.Common.{◌≡◌, ◌∙◌, sym, ap, Bor, [], ◌++◌, ◌∷◌, take, get_or, Some, is_some, refl}
use Rattle.phase_base.specs.Words.{Word, is_name}
use Rattle.graph_base.specs.Names.{names_of, phaser_named}
use Rattle.graph_lang.specs.WordValues.{or_zero, phaser_numbers}
use Rattle.graph_lang.specs.Faults.{is_phaser}
use Rattle.graph_text.specs.Plain.{plain}
use Rattle.graph_lang.proofs.Alls.{words-first, words-pass, words-more}
use Rattle.graph_lang.proofs.body.numbers_of.Goals as goal

abbrev nowhere : Bor Word
nowhere = record { ref_ptr = (0, 0); now = [] }

pub loop-word-init : goal.loop-word-init
loop-word-init c = record { names = c.requires; rest = refl; made = c.new-numbers.ensures.items }

pub number_of-requires : goal.number_of-requires
number_of-requires c = (words-first is_name c.args.words.now c.loop-word.word-index nowhere
    c.loop-word-test.true c.loop-word.invariant.names).0

-- one word more names a phaser, and its number is behind the others
pub loop-word-preserved : goal.loop-word-preserved
loop-word-preserved c =
    let xs = c.args.words.now in
    let i = c.loop-word.word-index in
    let lt = c.loop-word-test.true in
    let before = c.loop-word.invariant in
    let names = names_of c.args.names.now.entries in
    let word = (get_or xs i nowhere).now in
    let number = λ (word : Word). or_zero (phaser_named names word) in
    let is : phaser_named names word ≡ Some c.in-Some.number = sym c.number_of.ensures ∙ c.in-Some.is in
    record {
      names = (words-first is_name xs i nowhere lt before.names).1;
      rest = before.rest ∙ words-pass (is_phaser names) xs i nowhere lt (ap is_some is);
      made = c.in_ok-push.ensures.items
          ∙ ap (λ made. made ++ c.in-Some.number ∷ []) before.made
          ∙ ap (λ n. phaser_numbers names (plain (take i xs)) ++ or_zero n ∷ []) (sym is)
          ∙ sym (words-more number xs i nowhere lt);
    }
