-- Three more words.
use Rattle.std.proofs.Common.{◌∙◌, ap₂}
use Rattle.std.proofs.lemmas.Result.{IfOk-weaker}
use Rattle.clap.specs.Words.{with_rule}
use Rattle.phase_words.specs.StreamLine.{stream_app}
use Rattle.phase_words.proofs.stream_line.stream_command.Goals as goal

pub returns : goal.returns
unfolding stream_app
returns c =
    let with_files = c.in_ok-arg.ensures.shape c.to_word.ensures.local
    ∙ ap₂ with_rule c.in_ok-sink_command.ensures c.to_word.ensures.rule in
    let with_columns = c.in_ok-arg-2.ensures.shape c.columns_word.ensures.local
    ∙ ap₂ with_rule with_files c.columns_word.ensures.rule in
    IfOk-weaker c.arg-3.result _ _
    (λ r adds. adds.shape c.explain_word.ensures.local
    ∙ ap₂ with_rule with_columns c.explain_word.ensures.rule) c.arg-3.ensures
