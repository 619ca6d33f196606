-- What clap says of its own reading, at the command line behind `phase stream`, and of which sinks go
-- where.
use Rattle.std.proofs.Common.{◌≡◌, ◌∙◌, [], ap, ap₂, subst, sym, codes, map}
use Rattle.std.proofs.lemmas.Result.{err_from_is_err_and}
use Rattle.clap.proofs.WalkLemmas.{first_value-rows}
use Rattle.clap.specs.Kinds.{or_else}
use Rattle.clap.specs.Words.{HasKind, fault_of, first_of, found_of, matches_of, rows_of}
use Rattle.phase_words.proofs.Conflicts.{has-first}
use Rattle.phase_words.proofs.OutputKinds.{kinds-one, kinds-none}
use Rattle.phase_words.proofs.Simple.{stream_app-is_free, stream_app-is_simple}
use Rattle.phase_words.specs.CommandLine.{is_given, texts}
use Rattle.phase_words.specs.Outputs.{clashes_in, is_beside_columns, lack_file, output_kinds, output_kinds_by, pair_as, pairs_by, pairs_in, words_by}
use Rattle.phase_words.specs.StreamLine.{stream_app, stream_by, stream_in, stream_kinds_of, stream_with}
use Rattle.phase_words.proofs.stream_line.parse.Goals as goal

pub returns-in_err-matches-clause-fails : goal.returns-in_err-matches-clause-fails
unfolding stream_kinds_of
returns-in_err-matches-clause-fails c =
    let passed_on = c.from_residual in
    let error = err_from_is_err_and passed_on.result passed_on.ensures.1 in
    rw (error.1, error.2)
    (has-first _ _ c.in_err-matches.field-0.0 (c.in_err-matches.ensures.fails stream_app stream_app-is_free
    c.stream_command.ensures))

-- words that are refused by which sinks go where
pub returns-in-Some-clause-fails : goal.returns-in-Some-clause-fails
unfolding stream_kinds_of
returns-in-Some-clause-fails c =
    let words = texts c.args.words.now in
    let found = found_of c.in_ok-matches.matches in
    let rows = rows_of found in
    let clean : fault_of stream_app words ≡ [] =
    c.in_ok-matches.ensures.fails stream_app stream_app-is_free c.stream_command.ensures in
    let is : rows ≡ matches_of stream_app words =
    c.in_ok-matches.ensures.found stream_app stream_app-is_simple c.stream_command.ensures in
    let named : map (λ s. s.now) c.in_ok-named.named.items ≡ words_by rows = c.in_ok-named.ensures in
    let pairs : map pair_as c.in_ok-pairs.pairs.items ≡ pairs_in rows =
    c.in_ok-pairs.ensures ∙ ap₂ pairs_by (c.get_str.ensures ∙ first_value-rows found (codes "sink"))
    (ap (map (λ s. s.now)) c.deref.ensures.value ∙ named) in
    let beside : c.is_beside_columns-beside.result
    ≡ is_beside_columns (is_given (first_of (codes "columns") rows)) (pairs_in rows) =
    c.is_beside_columns-beside.ensures ∙ ap₂ is_beside_columns
    (c.is_given.ensures ∙ ap is_given (c.get_str-2.ensures ∙ first_value-rows found (codes "columns")))
    (ap (map pair_as) c.deref-2.ensures.value ∙ pairs) in
    let lacks : c.lack_file.result ≡ lack_file (words_by rows) =
    c.lack_file.ensures ∙ ap lack_file (ap (map (λ s. s.now)) c.deref-3.ensures.value ∙ named) in
    let clashes : c.has_clash.result ≡ clashes_in (pairs_in rows) =
    c.has_clash.ensures ∙ ap clashes_in (ap (map pair_as) c.deref-4.ensures.value ∙ pairs) in
    let kinds : output_kinds rows
    ≡ output_kinds_by c.is_beside_columns-beside.result c.lack_file.result c.has_clash.result =
    sym (ap₂ (λ one two. output_kinds_by one two c.has_clash.result) beside lacks
    ∙ ap (output_kinds_by (is_beside_columns (is_given (first_of (codes "columns") rows))
    (pairs_in rows)) (lack_file (words_by rows))) clashes) in
    subst (λ rows. HasKind (or_else (fault_of stream_app words) (output_kinds rows)) c.refused.result) is
    (kinds-one (fault_of stream_app words) (output_kinds rows) c.in-Some.kind c.in-Some.text
    c.refusal.result c.refused.result clean (kinds ∙ c.refusal.ensures) c.in-Some.is c.refused.ensures)

-- or not
pub returns-clause-fails : goal.returns-clause-fails
unfolding stream_kinds_of
returns-clause-fails c =
    let words = texts c.args.words.now in
    let found = found_of c.in_ok-matches.matches in
    let rows = rows_of found in
    let clean : fault_of stream_app words ≡ [] =
    c.in_ok-matches.ensures.fails stream_app stream_app-is_free c.stream_command.ensures in
    let is : rows ≡ matches_of stream_app words =
    c.in_ok-matches.ensures.found stream_app stream_app-is_simple c.stream_command.ensures in
    let named : map (λ s. s.now) c.in_ok-named.named.items ≡ words_by rows = c.in_ok-named.ensures in
    let pairs : map pair_as c.in_ok-pairs.pairs.items ≡ pairs_in rows =
    c.in_ok-pairs.ensures ∙ ap₂ pairs_by (c.get_str.ensures ∙ first_value-rows found (codes "sink"))
    (ap (map (λ s. s.now)) c.deref.ensures.value ∙ named) in
    let beside : c.is_beside_columns-beside.result
    ≡ is_beside_columns (is_given (first_of (codes "columns") rows)) (pairs_in rows) =
    c.is_beside_columns-beside.ensures ∙ ap₂ is_beside_columns
    (c.is_given.ensures ∙ ap is_given (c.get_str-2.ensures ∙ first_value-rows found (codes "columns")))
    (ap (map pair_as) c.deref-2.ensures.value ∙ pairs) in
    let lacks : c.lack_file.result ≡ lack_file (words_by rows) =
    c.lack_file.ensures ∙ ap lack_file (ap (map (λ s. s.now)) c.deref-3.ensures.value ∙ named) in
    let clashes : c.has_clash.result ≡ clashes_in (pairs_in rows) =
    c.has_clash.ensures ∙ ap clashes_in (ap (map pair_as) c.deref-4.ensures.value ∙ pairs) in
    let kinds : output_kinds rows
    ≡ output_kinds_by c.is_beside_columns-beside.result c.lack_file.result c.has_clash.result =
    sym (ap₂ (λ one two. output_kinds_by one two c.has_clash.result) beside lacks
    ∙ ap (output_kinds_by (is_beside_columns (is_given (first_of (codes "columns") rows))
    (pairs_in rows)) (lack_file (words_by rows))) clashes) in
    subst (λ rows. or_else (fault_of stream_app words) (output_kinds rows) ≡ []) is
    (kinds-none (fault_of stream_app words) (output_kinds rows) c.refusal.result clean
    (kinds ∙ c.refusal.ensures) c.in_default.is)

pub returns-clause-call : goal.returns-clause-call
unfolding stream_in
returns-clause-call c =
    let found = found_of c.in_ok-matches.matches in
    let rows = rows_of found in
    let named : map (λ s. s.now) c.in_ok-named.named.items ≡ words_by rows = c.in_ok-named.ensures in
    let pairs : map pair_as c.in_ok-pairs.pairs.items ≡ pairs_in rows =
    c.in_ok-pairs.ensures ∙ ap₂ pairs_by (c.get_str.ensures ∙ first_value-rows found (codes "sink"))
    (ap (map (λ s. s.now)) c.deref.ensures.value ∙ named) in
    c.in_ok-call_of.ensures
    ∙ ap (stream_with rows) (ap (map pair_as) c.deref-5.ensures.value ∙ pairs)
    ∙ ap stream_by
    (c.in_ok-matches.ensures.found stream_app stream_app-is_simple c.stream_command.ensures)
