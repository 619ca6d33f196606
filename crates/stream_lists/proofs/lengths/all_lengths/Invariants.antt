use Rattle.std.proofs.Common.{◌≡◌, ◌≤◌, length}
use Rattle.std.specs.List.{All}
use Rattle.stream_lists.specs.Jobs.{counted}
use Rattle.stream_lists.specs.Spans.{lengths_up_to}
use Rattle.stream_lists.specs.declared.span.TheConstants.{LENGTH_MAX}
use Rattle.stream_lists.proofs.lengths.all_lengths.Given as goal

-- the lengths of the lists of the phasers before this one
abbrev pub invariant-loop-p : goal.invariant-loop-p
invariant-loop-p l =
    (l.lengths.items ≡ lengths_up_to (counted l.graph l.counts) l.p)
    × All (λ n. n ≤ LENGTH_MAX) l.lengths.items
    × (length l.lengths.items ≡ l.p)
