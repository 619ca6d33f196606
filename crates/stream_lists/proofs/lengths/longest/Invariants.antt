use Rattle.std.proofs.Common.{◌≡◌, ◌≤◌, map}
use Rattle.std.specs.List.{range_with_len}
use Rattle.stream_lists.specs.Spans.{end_of, greatest}
use Rattle.stream_lists.specs.declared.span.TheConstants.{LENGTH_MAX}
use Rattle.stream_lists.proofs.lengths.longest.Given as goal

-- the greatest end of the tasks before this one
abbrev pub invariant-loop-t : goal.invariant-loop-t
invariant-loop-t l =
    (l.end ≡ greatest (map (end_of l.graph l.spans l.p) (range_with_len 0 l.t)))
    × (l.end ≤ LENGTH_MAX)
