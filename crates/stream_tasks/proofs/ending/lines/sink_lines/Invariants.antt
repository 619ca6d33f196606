use Rattle.std.proofs.Common.{◌≡◌, ℕ, ◌<◌, ◌≤◌, None, get_or, map, length, slice_get}
use Rattle.std.specs.List.{All, range_with_len, filter}
use Rattle.graph_base.specs.Graphs.{task_at}
use Rattle.stream_eval.specs.Results.{sink_values}
use Rattle.stream_lists.specs.Lists.{is_sink_at}
use Rattle.stream_tasks.specs.TaskLefts.{part_start, lines_at}
use Rattle.stream_tasks.proofs.ending.lines.sink_lines.Given as goal

-- the sinks among the tasks before this one, with their starts; the parts of the others stand where
-- they stood
abbrev pub invariant-loop-t : goal.invariant-loop-t
invariant-loop-t l =
    (map sink_values l.lines.items
    ≡ map (λ t. (t, lines_at l.fn.parts.items t)) (filter (is_sink_at l.job) (range_with_len 0 l.t)))
    × ((u : ℕ) → l.t ≤ u → slice_get l.parts.items u ≡ slice_get l.fn.parts.items u)
    × (length l.parts.items ≡ length l.fn.parts.items)
    × All (λ line. line.start ≡ part_start (task_at l.job.graph line.task).joins_now
    (get_or l.fn.parts.items line.task None)) l.lines.items
    × All (λ line. line.task < length l.job.graph.tasks) l.lines.items
