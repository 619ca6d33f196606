use Rattle.stream_lists.specs.Jobs.{with_starts}
use Rattle.graph_commands.proofs.Places.{sinks-within}
use Rattle.graph_commands.proofs.asked.write_sinks.Goals as goal

-- each sink is a task of the graph
pub write_lines-requires-clause-lines : goal.write_lines-requires-clause-lines
write_lines-requires-clause-lines g c =
    rw c.graph.ensures.graph (sinks-within (with_starts c.requires.lines.0 c.args.job.now) c.args.lines.now c.requires.lines.1)
