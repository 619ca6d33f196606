use Rattle.std.proofs.Common.{ap, length, arith}
use Rattle.graph_base.specs.GraphFields.{task_of}
use Rattle.graph_base.specs.Registrations.{registrations_of}
use Rattle.graph_base.proofs.Registered.{length-registrations, few-registrations}
use Rattle.graph_base.proofs.graph.Graph.registrations.Goals as goal

-- each input and each output is one
pub returns-clause-count : goal.returns-clause-count
returns-clause-count c =
    let line = c.task-task.ensures in
    let all = length-registrations c.args.self.now (task_of c.task-task.result.now) line.line.ends in
    let same = ap (λ task. length (registrations_of c.args.self.now task)) line.task in
    omega (arith, all, same, c.len.ensures, c.len-2.ensures)

-- its kind has few ends
pub returns-clause-few : goal.returns-clause-few
returns-clause-few c =
    let few = few-registrations (task_of c.task-task.result.now) c.task-task.ensures.line.ends in
    omega (arith, few, c.len.ensures, c.len-2.ensures)
