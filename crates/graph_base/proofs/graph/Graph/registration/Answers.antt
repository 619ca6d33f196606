use Rattle.std.proofs.Common.{ap, length, arith}
use Rattle.graph_base.specs.GraphFields.{task_of}
use Rattle.graph_base.specs.Registrations.{registrations_of}
use Rattle.graph_base.proofs.Registered.{length-registrations}
use Rattle.graph_base.proofs.graph.Graph.registration.Goals as goal

-- each input and each output is one
pub end_of-requires : goal.end_of-requires
end_of-requires c =
    let line = c.task-task.ensures in
    let all = length-registrations c.args.self.now (task_of c.task-task.result.now) line.line.ends in
    let same = ap (λ task. length (registrations_of c.args.self.now task)) line.task in
    omega (arith, all, same, c.requires.number)
