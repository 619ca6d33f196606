use Rattle.std.proofs.Common.{◌≡◌, ◌-◌, length}
use Rattle.std.specs.List.{range_with_len, list_any}
use Rattle.stream_lists.specs.Meetings.{meets_on}
use Rattle.stream_lists.proofs.meetings.meets_some.Given as goal

-- the task meets none on the phasers before this one
abbrev pub invariant-loop-p : goal.invariant-loop-p
invariant-loop-p l =
    list_any (meets_on l.graph l.spans l.t) (range_with_len 0 (length l.graph.phasers))
    ≡ list_any (meets_on l.graph l.spans l.t) (range_with_len l.p (length l.graph.phasers - l.p))
