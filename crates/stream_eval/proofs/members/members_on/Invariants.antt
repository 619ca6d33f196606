use Rattle.std.proofs.Common.{◌≡◌, ◌-◌, ◌≤◌, length, map}
use Rattle.std.specs.List.{range_with_len, All, filter_map}
use Rattle.phase_accum.specs.Sends.{AreSends}
use Rattle.stream_lists.specs.Lists.{contribution_at}
use Rattle.stream_lists.specs.Ranges.{first_some, output_fault_of}
use Rattle.stream_lists.specs.JobFields.{items_of}
use Rattle.stream_lists.specs.Spans.{schedule_of}
use Rattle.stream_eval.specs.Composing.{member_of}
use Rattle.stream_eval.proofs.members.members_on.Given as goal

-- the members among the tasks before this one, whose values are in range
abbrev pub invariant-loop-t : goal.invariant-loop-t
invariant-loop-t g l =
    (map member_of l.members.items
    ≡ filter_map (contribution_at l.job (schedule_of l.job) (items_of l.above) l.p)
    (range_with_len 0 l.t))
    × All (λ part. AreSends part.values.items) l.members.items
    × (length l.members.items ≤ l.t)
    × (first_some (map (output_fault_of l.job (schedule_of l.job) (items_of l.above) l.p)
    (range_with_len 0 (length l.job.graph.tasks)))
    ≡ first_some (map (output_fault_of l.job (schedule_of l.job) (items_of l.above) l.p)
    (range_with_len l.t (length l.job.graph.tasks - l.t))))
