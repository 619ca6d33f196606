-- The texts of help are no part of what a parse reads. Two words stand behind the command.
use Rattle.std.proofs.Common.{◌||◌, ◌∙◌, ap, ap₂}
use Rattle.std.proofs.lemmas.Result.{IfOk-weaker}
use Rattle.clap.specs.Words.{App, with_rule}
use Rattle.clap.specs.Simple.{app_of_fields}
use Rattle.phase_words.proofs.command_line.replay_command.Goals as goal

pub returns-clause-shape : goal.returns-clause-shape
returns-clause-shape c =
    let with_script = c.in_ok-arg.ensures.shape c.script_word.ensures.local
    ∙ ap₂ with_rule (ap app_of_fields c.after_help.ensures ∙ (ap app_of_fields c.about.ensures
    ∙ c.new.ensures.app)) c.script_word.ensures.rule in
    IfOk-weaker c.arg-2.result _ _
    (λ r adds. ap (λ (a : App). a.top) (adds.shape c.strict_word.ensures.local
    ∙ ap₂ with_rule with_script c.strict_word.ensures.rule)) c.arg-2.ensures

pub returns-clause-local : goal.returns-clause-local
returns-clause-local c =
    let with_script = c.in_ok-arg.ensures.globals
    ∙ ap₂ (λ old global. old || global)
    (ap (λ f. f.has_globals) c.after_help.ensures
    ∙ (ap (λ f. f.has_globals) c.about.ensures ∙ c.new.ensures.local))
    c.script_word.ensures.local in
    IfOk-weaker c.arg-2.result _ _
    (λ r adds. adds.globals ∙ ap₂ (λ old global. old || global) with_script
    c.strict_word.ensures.local) c.arg-2.ensures
