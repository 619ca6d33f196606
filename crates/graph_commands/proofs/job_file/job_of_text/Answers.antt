use Rattle.std.proofs.lemmas.Result.{IfErr-weaker, IfOk-weaker}
use Rattle.graph_commands.proofs.Explaining.{graph-of-text}
use Rattle.graph_commands.proofs.job_file.job_of_text.Goals as goal

-- the graph was read
pub returns-clause-ok : goal.returns-clause-ok
returns-clause-ok g c =
    IfOk-weaker c.job_of_graph.result _ _
    (λ job holds name of. holds name (graph-of-text _ name c.args.text.now c.in_ok-graph.graph of c.in_ok-graph.ensures))
    c.job_of_graph.ensures.ok

pub returns-clause-fault : goal.returns-clause-fault
returns-clause-fault g c =
    IfErr-weaker c.job_of_graph.result _ _
    (λ fault holds name of. holds name (graph-of-text _ name c.args.text.now c.in_ok-graph.graph of c.in_ok-graph.ensures))
    c.job_of_graph.ensures.fault
