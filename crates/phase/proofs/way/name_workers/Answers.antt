use Rattle.std.proofs.Common.{◌≡◌, ◌<◌, ◌≤◌, [], length, get_or, sym, ap, ◌∙◌, refl, true, false, arith}
use Rattle.std.specs.Prelude.{string_bytes}
use Rattle.std.specs.List.{list_any}
use Rattle.std.proofs.Math.ListN.{drop_of_length-le}
use Rattle.std.proofs.lemmas.List.{length-map, get_or-map}
use Rattle.phase.specs.Ways.{names_workers}
use Rattle.phase_words.specs.CommandLine.{texts}
use Rattle.phase.proofs.Words.{any-here, any-pass}
use Rattle.phase.proofs.way.name_workers.Goals as goal

pub loop-word-init : goal.loop-word-init
loop-word-init c = refl

-- this word does
pub returns-then-names_workers : goal.returns-then-names_workers
returns-then-names_workers c =
    let words = c.args.words.now in
    let i = c.loop-word.word-index in
    let word = c.word-item.result in
    let here = get_or-map string_bytes words i word [] c.loop-word-test.true
    ∙ ap string_bytes (sym c.word-item.is) in
    let long : i < length (texts words) = omega
    (arith, length-map words string_bytes, c.loop-word-test.true) in
    let told = ap names_workers (here ∙ sym c.as_str.ensures.value)
    ∙ (sym c.names_workers.ensures ∙ c.if-names_workers.true) in
    sym (c.loop-word.invariant ∙ any-here names_workers (texts words) i [] long told)

-- nor does this one
pub loop-word-preserved : goal.loop-word-preserved
loop-word-preserved c =
    let words = c.args.words.now in
    let i = c.loop-word.word-index in
    let word = c.word-item.result in
    let here = get_or-map string_bytes words i word [] c.loop-word-test.true
    ∙ ap string_bytes (sym c.word-item.is) in
    let long : i < length (texts words) = omega
    (arith, length-map words string_bytes, c.loop-word-test.true) in
    let told = ap names_workers (here ∙ sym c.as_str.ensures.value)
    ∙ (sym c.names_workers.ensures ∙ c.if-names_workers.false) in
    c.loop-word.invariant ∙ any-pass names_workers (texts words) i [] long told

-- no word is left
pub returns : goal.returns
returns c =
    let words = c.args.words.now in
    let past : length (texts words) ≤ c.loop-word.word-index = omega
    (arith, length-map words string_bytes, c.loop-word-test.false) in
    sym (c.loop-word.invariant
    ∙ ap (list_any names_workers) (drop_of_length-le (texts words) past))
