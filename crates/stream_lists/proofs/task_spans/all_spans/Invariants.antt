use Rattle.std.proofs.Common.{◌≡◌, length}
use Rattle.std.specs.List.{All}
use Rattle.stream_lists.specs.JobFields.{IsShort}
use Rattle.stream_lists.specs.Jobs.{counted}
use Rattle.stream_lists.specs.Spans.{spans_up_to}
use Rattle.stream_lists.proofs.task_spans.all_spans.Given as goal

-- the spans of the tasks before this one
abbrev pub invariant-loop-t : goal.invariant-loop-t
invariant-loop-t l =
    (l.spans.items ≡ spans_up_to (counted l.graph l.counts) l.lengths l.t)
    × All IsShort l.spans.items
    × (length l.spans.items ≡ l.t)
