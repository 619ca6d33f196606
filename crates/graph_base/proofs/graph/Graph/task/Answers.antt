use Rattle.std.proofs.Common.{arith, sym, subst, ◌<◌, length, map}
use Rattle.std.proofs.lemmas.List.{length-map}
use Rattle.graph_base.specs.Graphs.{Task, Graph}
use Rattle.graph_base.specs.TaskLines.{IsTaskLine}
use Rattle.graph_base.specs.GraphFields.{task_of, graph_view}
use Rattle.graph_base.proofs.Readers.{task_of-get_or}
use Rattle.graph_base.proofs.graph.Graph.task.Goals as goal

-- the invariant says it of the line with this number
pub returns-clause-line : goal.returns-clause-line
returns-clause-line c =
    let lines = c.self.inside.tasks.items in
    let Below : Graph → Type 0 = λ graph. c.args.t < length graph.tasks in
    let there : c.args.t < length (map task_of lines) =
    subst Below (sym c.self.view_is) c.requires in
    let below : c.args.t < length lines = omega (arith, there, length-map lines task_of) in
    let line = task_of-get_or lines c.args.t c.index.result.now below c.index.ensures in
    let Is : Task → Type 0 = λ task. IsTaskLine (graph_view c.self.inside) c.args.t task in
    let In : Graph → Type 0 = λ graph. IsTaskLine graph c.args.t (task_of c.index.result.now) in
    subst In c.self.view_is (subst Is line (c.self.invariant.tasks c.args.t there))
