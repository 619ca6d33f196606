use Rattle.std.proofs.Common.{◌≡◌, ◌-◌, map}
use Rattle.std.specs.List.{range_with_len}
use Rattle.stream_lists.specs.Ranges.{first_some}
use Rattle.stream_lists.specs.Meetings.{meeting_with}
use Rattle.stream_lists.proofs.meetings.first_above.Given as goal

-- the task meets none of those before this one
abbrev pub invariant-loop-u : goal.invariant-loop-u
invariant-loop-u l =
    first_some (map (meeting_with l.graph l.spans l.t l.p) (range_with_len 0 l.t))
    ≡ first_some (map (meeting_with l.graph l.spans l.t l.p) (range_with_len l.u (l.t - l.u)))
