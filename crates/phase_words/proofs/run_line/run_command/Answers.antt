-- One word more.
use Rattle.std.proofs.Common.{◌∙◌, ap₂}
use Rattle.std.proofs.lemmas.Result.{IfOk-weaker}
use Rattle.clap.specs.Words.{with_rule}
use Rattle.phase_words.specs.RunLine.{run_app, workers_app}
use Rattle.phase_words.proofs.run_line.run_command.Goals as goal

pub returns : goal.returns
unfolding run_app workers_app
returns c =
    IfOk-weaker c.arg.result _ _
    (λ r adds. adds.shape c.counts_word.ensures.local
    ∙ ap₂ with_rule c.in_ok-workers_command.ensures c.counts_word.ensures.rule) c.arg.ensures
