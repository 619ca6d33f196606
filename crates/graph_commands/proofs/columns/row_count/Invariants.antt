use Rattle.std.proofs.Common.{◌≡◌, map, take}
use Rattle.stream_eval.specs.Results.{sink_values}
use Rattle.stream_lists.specs.Spans.{greatest}
use Rattle.graph_commands.specs.ColumnTexts.{end_at}
use Rattle.graph_commands.proofs.columns.row_count.Given as goal

-- the greatest end of the sinks before this one
abbrev pub invariant-loop-sink : goal.invariant-loop-sink
invariant-loop-sink l =
    l.end ≡ greatest (map (end_at l.job) (map sink_values (take l.sink-index l.sinks)))
