-- Three words, one after the other.
use Rattle.std.proofs.Common.{◌∙◌, ap₂}
use Rattle.std.proofs.lemmas.Result.{IfOk-weaker}
use Rattle.clap.specs.Words.{with_rule}
use Rattle.phase_words.proofs.sink_line.sink_command.Goals as goal

pub returns : goal.returns
returns c =
    let one = c.in_ok-arg.ensures.shape c.graph_word.ensures.local
    ∙ ap₂ with_rule c.in_ok-bare_command.ensures c.graph_word.ensures.rule in
    let two = c.in_ok-arg-2.ensures.shape c.sink_word.ensures.local
    ∙ ap₂ with_rule one c.sink_word.ensures.rule in
    IfOk-weaker c.arg-3.result _ _
    (λ r adds. adds.shape c.beside_word.ensures.local
    ∙ ap₂ with_rule two c.beside_word.ensures.rule) c.arg-3.ensures
