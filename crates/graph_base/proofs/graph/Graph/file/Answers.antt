use Rattle.std.proofs.Common.{◌<◌, sym, subst, arith}
use Rattle.graph_base.specs.Graphs.{Graph, sources_of}
use Rattle.graph_base.specs.GraphFields.{graph_view}
use Rattle.graph_base.proofs.Files.{file-is, file-few}
use Rattle.graph_base.proofs.graph.Graph.file.Goals as goal

-- the file is one of the fields
pub returns-clause-word : goal.returns-clause-word
returns-clause-word c =
    let Below : Graph → Type 0 = λ graph. c.args.source < sources_of graph in
    let there : c.args.source < sources_of (graph_view c.self.inside) =
    subst Below (sym c.self.view_is) c.requires in
    let each = c.self.invariant.files in
    let is = file-is c.self.inside.files.items c.args.source c.index.result.now
    (omega (arith, there, each)) c.index.ensures c.self.invariant.are_files in
    rw c.as_str.ensures.value is

pub returns-clause-few : goal.returns-clause-few
returns-clause-few c =
    let Below : Graph → Type 0 = λ graph. c.args.source < sources_of graph in
    let there : c.args.source < sources_of (graph_view c.self.inside) =
    subst Below (sym c.self.view_is) c.requires in
    let each = c.self.invariant.files in
    let is = file-is c.self.inside.files.items c.args.source c.index.result.now
    (omega (arith, there, each)) c.index.ensures c.self.invariant.are_files in
    file-few c.as_str.result.now (rw c.as_str.ensures.value is)
