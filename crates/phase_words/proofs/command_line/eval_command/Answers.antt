-- The command of a graph's file, with five more words.
use Rattle.std.proofs.Common.{◌||◌, ◌∙◌, ap, ap₂}
use Rattle.std.proofs.lemmas.Result.{IfOk-weaker}
use Rattle.clap.specs.Words.{App, with_rule}
use Rattle.phase_words.proofs.command_line.eval_command.Goals as goal

pub returns-clause-shape : goal.returns-clause-shape
returns-clause-shape c =
    let of_graph = c.in_ok-graph_command.ensures in
    let with_sink = c.in_ok-arg.ensures.shape c.sink_word.ensures.local
    ∙ ap₂ with_rule of_graph.app c.sink_word.ensures.rule in
    let with_columns = c.in_ok-arg-2.ensures.shape c.columns_word.ensures.local
    ∙ ap₂ with_rule with_sink c.columns_word.ensures.rule in
    let with_beside = c.in_ok-arg-3.ensures.shape c.beside_word.ensures.local
    ∙ ap₂ with_rule with_columns c.beside_word.ensures.rule in
    let with_workers = c.in_ok-arg-4.ensures.shape c.workers_word.ensures.local
    ∙ ap₂ with_rule with_beside c.workers_word.ensures.rule in
    IfOk-weaker c.arg-5.result _ _
    (λ r adds. ap (λ (a : App). a.top) (adds.shape c.explain_word.ensures.local
    ∙ ap₂ with_rule with_workers c.explain_word.ensures.rule)) c.arg-5.ensures

pub returns-clause-local : goal.returns-clause-local
returns-clause-local c =
    let with_sink = c.in_ok-arg.ensures.globals
    ∙ ap₂ (λ old global. old || global) c.in_ok-graph_command.ensures.local
    c.sink_word.ensures.local in
    let with_columns = c.in_ok-arg-2.ensures.globals
    ∙ ap₂ (λ old global. old || global) with_sink c.columns_word.ensures.local in
    let with_beside = c.in_ok-arg-3.ensures.globals
    ∙ ap₂ (λ old global. old || global) with_columns c.beside_word.ensures.local in
    let with_workers = c.in_ok-arg-4.ensures.globals
    ∙ ap₂ (λ old global. old || global) with_beside c.workers_word.ensures.local in
    IfOk-weaker c.arg-5.result _ _
    (λ r adds. adds.globals ∙ ap₂ (λ old global. old || global) with_workers
    c.explain_word.ensures.local) c.arg-5.ensures
