-- The command of a graph's file, with one more word.
use Rattle.std.proofs.Common.{◌||◌, ◌∙◌, ap, ap₂}
use Rattle.std.proofs.lemmas.Result.{IfOk-weaker}
use Rattle.clap.specs.Words.{App, with_rule}
use Rattle.phase_words.proofs.command_line.draw_command.Goals as goal

pub returns-clause-shape : goal.returns-clause-shape
returns-clause-shape c =
    let of_graph = c.in_ok-graph_command.ensures in
    IfOk-weaker c.arg.result _ _
    (λ r adds. ap (λ (a : App). a.top) (adds.shape c.explain_word.ensures.local
    ∙ ap₂ with_rule of_graph.app c.explain_word.ensures.rule)) c.arg.ensures

pub returns-clause-local : goal.returns-clause-local
returns-clause-local c =
    IfOk-weaker c.arg.result _ _
    (λ r adds. adds.globals ∙ ap₂ (λ old global. old || global) c.in_ok-graph_command.ensures.local
    c.explain_word.ensures.local) c.arg.ensures
