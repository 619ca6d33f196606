-- What was found for both words.
use Rattle.std.proofs.Common.{◌≡◌, ◌∙◌, ◌||◌, codes, ap, ap₂, sym}
use Rattle.std.specs.Prelude.{is_some}
use Rattle.clap.proofs.WalkLemmas.{first_value-rows}
use Rattle.clap.specs.Words.{first_of, found_of, rows_of}
use Rattle.phase_words.proofs.Conflicts.{some-now}
use Rattle.phase_words.proofs.command_line.names_other.Goals as goal

pub returns-then-is_some : goal.returns-then-is_some
returns-then-is_some c =
    let found = found_of c.args.own.now in
    let sink : is_some (first_of (codes "sink") (rows_of found)) ≡ c.is_some.result =
    ap is_some (sym (c.get_str-sink.ensures ∙ first_value-rows found (codes "sink")))
    ∙ some-now c.get_str-sink.result ∙ sym c.is_some.ensures in
    c.if-is_some.true ∙ sym (ap (λ a. a || is_some (first_of (codes "workers") (rows_of found)))
    (sink ∙ c.if-is_some.true))

pub returns-else-is_some : goal.returns-else-is_some
returns-else-is_some c =
    let found = found_of c.args.own.now in
    let sink : is_some (first_of (codes "sink") (rows_of found)) ≡ c.is_some.result =
    ap is_some (sym (c.get_str-sink.ensures ∙ first_value-rows found (codes "sink")))
    ∙ some-now c.get_str-sink.result ∙ sym c.is_some.ensures in
    let workers : is_some (first_of (codes "workers") (rows_of found)) ≡ is_some c.get_str-workers.result =
    ap is_some (sym (c.get_str-workers.ensures ∙ first_value-rows found (codes "workers")))
    ∙ some-now c.get_str-workers.result in
    c.is_some-else-is_some.ensures
    ∙ sym (ap₂ (λ a b. a || b) (sink ∙ c.if-is_some.false) workers)
