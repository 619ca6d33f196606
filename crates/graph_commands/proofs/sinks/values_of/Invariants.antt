use Rattle.std.proofs.Common.{◌≡◌, map, drop}
use Rattle.stream_eval.specs.Results.{sink_output}
use Rattle.graph_commands.specs.OutputTexts.{values_of_sink}
use Rattle.graph_commands.proofs.sinks.values_of.Given as goal

-- none of the lines so far is the sink's
abbrev pub invariant-loop-line : goal.invariant-loop-line
invariant-loop-line l =
    values_of_sink l.sink (map sink_output l.lines)
    ≡ values_of_sink l.sink (map sink_output (drop l.line-index l.lines))
