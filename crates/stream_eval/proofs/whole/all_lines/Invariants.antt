use Rattle.std.proofs.Common.{◌≡◌, map}
use Rattle.std.specs.List.{All, range_with_len, filter}
use Rattle.stream_lists.specs.Lists.{is_sink_at, sink_over, start_in}
use Rattle.stream_eval.specs.Results.{sink_values}
use Rattle.stream_lists.specs.JobFields.{items_of}
use Rattle.stream_lists.specs.Spans.{schedule_of}
use Rattle.stream_eval.proofs.whole.all_lines.Given as goal

-- the sinks among the tasks before this one
abbrev pub invariant-loop-t : goal.invariant-loop-t
invariant-loop-t l =
    (map sink_values l.lines.items ≡ map (sink_over l.job (schedule_of l.job) (items_of l.lists))
    (filter (is_sink_at l.job) (range_with_len 0 l.t)))
    × All (λ line. line.start ≡ start_in l.job line.task) l.lines.items
