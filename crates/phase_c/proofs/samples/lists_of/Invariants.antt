use Rattle.std.proofs.Common.{◌≡◌, ◌≤◌, ◌++◌, length, drop}
use Rattle.std.specs.List.{All, sum}
use Rattle.phase_accum.specs.Sends.{AreSends}
use Rattle.stream_lists.specs.JobFields.{items_of}
use Rattle.stream_lists.specs.declared.job.TheConstants.{SAMPLES_MAX}
use Rattle.phase_c.specs.Lent.{cut}
use Rattle.phase_c.proofs.samples.lists_of.Given as goal

-- the lists of the counts before this one stand before those of what is left
abbrev pub invariant-loop-count : goal.invariant-loop-count
invariant-loop-count l = record {
  lists : items_of l.lists.items ++ cut (drop l.count-index l.counts) l.rest
      ≡ cut l.counts l.samples;
  each : length l.lists.items ≡ l.count-index;
  total : sum (drop l.count-index l.counts) ≡ length l.rest;
  rest_sends : AreSends l.rest;
  sends : All (λ list. AreSends list.items) l.lists.items;
  few : All (λ list. length list.items ≤ SAMPLES_MAX) l.lists.items;
}
