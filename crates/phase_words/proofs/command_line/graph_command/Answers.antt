-- The texts of help are no part of what a parse reads.
use Rattle.std.proofs.Common.{◌||◌, ◌∙◌, ap, ap₂}
use Rattle.std.proofs.lemmas.Result.{IfOk-weaker}
use Rattle.clap.specs.Words.{with_rule}
use Rattle.clap.specs.Simple.{app_of_fields}
use Rattle.phase_words.proofs.command_line.graph_command.Goals as goal

pub returns-clause-app : goal.returns-clause-app
returns-clause-app c =
    IfOk-weaker c.arg.result _ _
    (λ r adds. adds.shape c.graph_word.ensures.local
    ∙ ap₂ with_rule (ap app_of_fields c.after_help.ensures ∙ (ap app_of_fields c.about.ensures
    ∙ c.new.ensures.app)) c.graph_word.ensures.rule) c.arg.ensures

pub returns-clause-local : goal.returns-clause-local
returns-clause-local c =
    IfOk-weaker c.arg.result _ _
    (λ r adds. adds.globals ∙ ap₂ (λ old global. old || global)
    (ap (λ f. f.has_globals) c.after_help.ensures
    ∙ (ap (λ f. f.has_globals) c.about.ensures ∙ c.new.ensures.local))
    c.graph_word.ensures.local) c.arg.ensures
