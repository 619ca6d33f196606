-- Two words more, one after the other.
use Rattle.std.proofs.Common.{◌∙◌, ap₂}
use Rattle.std.proofs.lemmas.Result.{IfOk-weaker}
use Rattle.clap.specs.Words.{with_rule}
use Rattle.phase_words.specs.RunLine.{workers_app}
use Rattle.phase_words.proofs.run_line.workers_command.Goals as goal

pub returns : goal.returns
unfolding workers_app
returns c =
    let one = c.in_ok-arg.ensures.shape c.workers_word.ensures.local
    ∙ ap₂ with_rule c.in_ok-sink_command.ensures c.workers_word.ensures.rule in
    IfOk-weaker c.arg-2.result _ _
    (λ r adds. adds.shape c.explain_word.ensures.local
    ∙ ap₂ with_rule one c.explain_word.ensures.rule) c.arg-2.ensures
