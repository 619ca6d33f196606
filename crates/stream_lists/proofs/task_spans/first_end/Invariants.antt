use Rattle.std.proofs.Common.{◌≡◌, map}
use Rattle.std.specs.Prelude.{min}
use Rattle.std.specs.List.{fold, range_with_len}
use Rattle.graph_base.specs.GraphFields.{task_of}
use Rattle.stream_lists.specs.Spans.{run_out, values_from}
use Rattle.stream_lists.proofs.task_spans.first_end.Given as goal

-- the first of the inputs before this one
abbrev pub invariant-loop-k : goal.invariant-loop-k
invariant-loop-k l =
    let values = values_from (task_of l.task) l.lengths l.offset in
    l.first ≡ fold min (run_out values 0) (map (run_out values) (range_with_len 0 l.k))
