use Rattle.std.proofs.Common.{rules, refl}
use Rattle.graph_commands.proofs.Needed.{needed-graph}
use Rattle.graph_commands.proofs.answered.unanswered.Goals as goal

-- a value is out of range
pub returns-in-TooBig : goal.returns-in-TooBig
returns-in-TooBig c known name asked of =
    record { job_of = of; first = c.requires c.in-TooBig.place c.in-TooBig.phase (search rules) }

-- memory ran out over the lists
pub returns-in-OutOfMemory : goal.returns-in-OutOfMemory
returns-in-OutOfMemory c known name asked of =
    (refl, needed-graph known name c.args.job.graph of.graph_of)
