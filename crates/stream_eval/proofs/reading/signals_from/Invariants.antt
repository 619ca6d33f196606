use Rattle.std.proofs.Common.{◌≡◌, ◌-◌, length}
use Rattle.std.specs.List.{range_with_len, list_any}
use Rattle.stream_eval.specs.Composing.{signals_on}
use Rattle.stream_eval.proofs.reading.signals_from.Given as goal

-- it signals none of the phasers before this one
abbrev pub invariant-loop-below : goal.invariant-loop-below
invariant-loop-below l =
    list_any (signals_on l.job l.t) (range_with_len l.p (length l.job.graph.phasers - l.p))
    ≡ list_any (signals_on l.job l.t) (range_with_len l.below (length l.job.graph.phasers - l.below))
