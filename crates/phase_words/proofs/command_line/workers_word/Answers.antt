-- The text of help is no part of a rule.
use Rattle.std.proofs.Common.{◌≡◌, ◌∙◌, ap, ap₂, codes, rules, Option, Some}
use Rattle.clap.specs.Words.{Rule, rule_of}
use Rattle.clap.specs.declared.builder.arg.Arg.{Arg}
use Rattle.clap.specs.declared.builder.value_parser.ValueParser.{ValueParser}
use Rattle.clap.specs.declared.builder.value_parser.ValueParser.TheVariants as vp
use Rattle.phase_words.proofs.command_line.workers_word.Goals as goal

pub returns-clause-rule : goal.returns-clause-rule
returns-clause-rule c =
    let parser = c.value_parser.result.value_parser in
    let is : parser ≡ Some (vp.Unsigned 1 16) = search rules in
    ap rule_of c.help.ensures ∙ (ap rule_of c.value_parser.ensures.others
    ∙ (ap (λ (a : Arg). record (rule_of a) { parser = parser }) c.value_name.ensures
    ∙ (ap (λ (a : Arg). record (rule_of a) { value_names = 1; parser = parser }) c.long.ensures
    ∙ ap₂ (λ (r : Rule) (p : Option ValueParser).
    record r { long = Some (codes "workers"); value_names = 1; parser = p })
    c.new.ensures.rule is)))
