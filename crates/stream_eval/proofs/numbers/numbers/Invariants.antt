use Rattle.std.proofs.Common.{◌≡◌, ◌-◌, List, length, map}
use Rattle.std.specs.List.{range_with_len, find}
use Rattle.phase_accum.specs.Sends.{AreSends}
use Rattle.stream_lists.specs.Lists.{Contribution, number_in}
use Rattle.stream_lists.specs.Ranges.{is_fault, first_fault}
use Rattle.stream_lists.specs.Spans.{schedule_of}
use Rattle.stream_eval.specs.Composing.{HasParts}
use Rattle.stream_eval.proofs.numbers.numbers.Given as goal

-- the numbers of the phases before this one, none of which is a fault
abbrev pub invariant-loop-n : goal.invariant-loop-n
invariant-loop-n g l =
    ((members : List Contribution) → HasParts g.A.Accumulate.operation l.parts members
    → l.list.items ≡ map (number_in g.A.Accumulate.operation.value l.job l.p members)
    (range_with_len 0 l.n))
    × AreSends l.list.items
    × ((members : List Contribution) → HasParts g.A.Accumulate.operation l.parts members
    → first_fault g.A.Accumulate.operation.value l.job (schedule_of l.job) members l.p (length l.parts)
    ≡ find (is_fault g.A.Accumulate.operation.value l.job (schedule_of l.job) members l.p)
    (range_with_len l.n (length l.parts - l.n)))
