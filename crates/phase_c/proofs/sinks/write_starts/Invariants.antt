use Rattle.std.proofs.Common.{◌≡◌, length, map, take}
use Rattle.stream_lists.specs.Lists.{start_in}
use Rattle.phase_c.specs.Evaluations.{start_number}
use Rattle.phase_c.proofs.sinks.write_starts.Given as goal

-- the starts of the sinks before this one were written
abbrev pub invariant-loop-k : goal.invariant-loop-k
invariant-loop-k l = record {
  written : take l.k l.starts ≡ map (λ t. start_number (start_in l.job t)) (take l.k l.sinks);
  each : length l.starts ≡ length l.sinks;
}
