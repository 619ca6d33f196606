use Rattle.std.proofs.Common.{◌≡◌, ◌-◌, length}
use Rattle.std.specs.List.{range_with_len, find}
use Rattle.stream_lists.specs.Meetings.{meets_above}
use Rattle.stream_lists.proofs.meetings.first_meeting.Given as goal

-- none of the tasks before this one meets a task above it
abbrev pub invariant-loop-t : goal.invariant-loop-t
invariant-loop-t l =
    find (meets_above l.graph l.spans) (range_with_len 0 (length l.graph.tasks))
    ≡ find (meets_above l.graph l.spans) (range_with_len l.t (length l.graph.tasks - l.t))
