use Rattle.std.proofs.Common.{◌≡◌, ◌-◌, ℕ, [], length, map, get_or}
use Rattle.std.specs.List.{range_with_len, All}
use Rattle.phase_accum.specs.Sends.{AreSends}
use Rattle.stream_lists.specs.Lists.{numbers_up_to}
use Rattle.stream_lists.specs.Ranges.{first_some, fault_on}
use Rattle.stream_lists.specs.JobFields.{items_of}
use Rattle.stream_lists.specs.Spans.{schedule_of}
use Rattle.stream_eval.specs.Composing.{list_kept}
use Rattle.stream_eval.proofs.whole.phaser_lists.Given as goal

-- the lists of the phasers before this one that are still read, whose values are in range
abbrev pub invariant-loop-p : goal.invariant-loop-p
invariant-loop-p g l = record {
  kept : (q : ℕ) → get_or (items_of l.lists.items) q []
      ≡ list_kept l.job l.p (numbers_up_to l.job (schedule_of l.job) l.p) q;
  long : length l.lists.items ≡ l.p;
  sends : All (λ list. AreSends list.items) l.lists.items;
  none_yet : first_some (map (fault_on l.job) (range_with_len 0 (length l.job.graph.phasers)))
      ≡ first_some (map (fault_on l.job) (range_with_len l.p (length l.job.graph.phasers - l.p)));
}
