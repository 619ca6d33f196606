use Rattle.std.proofs.Common.{◌-◌, length}
use Rattle.stream_filters.proofs.WholeLists.{AreInTurn}
use Rattle.stream_filters.proofs.whole_list.add_in_turn.Given as goal

-- the outputs at the samples before number `at`
abbrev pub invariant-loop-at : goal.invariant-loop-at
invariant-loop-at l = AreInTurn l.taps l.form l.samples l.list.items l.at l.small_from l.limit

-- the samples that are left
abbrev pub decreases-loop-at : goal.decreases-loop-at
decreases-loop-at l = length l.samples - l.at
