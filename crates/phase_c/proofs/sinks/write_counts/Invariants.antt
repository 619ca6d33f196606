use Rattle.std.proofs.Common.{◌≡◌, length, map, take}
use Rattle.stream_lists.specs.Spans.{span_in}
use Rattle.phase_c.proofs.sinks.write_counts.Given as goal

-- the counts of the sinks before this one were written
abbrev pub invariant-loop-k : goal.invariant-loop-k
invariant-loop-k l = record {
  written : take l.k l.counts ≡ map (λ t. (span_in l.job t).steps) (take l.k l.sinks);
  each : length l.counts ≡ length l.sinks;
}
