-- The text of help is no part of a rule.
use Rattle.std.proofs.Common.{◌∙◌, ap, codes, Some}
use Rattle.clap.specs.Words.{Rule, rule_of}
use Rattle.clap.specs.declared.builder.arg.Arg.{Arg}
use Rattle.phase_words.proofs.command_line.sink_word.Goals as goal

pub returns-clause-rule : goal.returns-clause-rule
returns-clause-rule c =
    ap rule_of c.help.ensures ∙ (ap rule_of c.value_name.ensures
    ∙ (ap (λ (a : Arg). record (rule_of a) { value_names = 1 }) c.long.ensures
    ∙ ap (λ (r : Rule). record r { long = Some (codes "sink"); value_names = 1 }) c.new.ensures.rule))
