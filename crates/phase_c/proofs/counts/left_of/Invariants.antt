use Rattle.std.proofs.Common.{◌≡◌, ◌+◌, take}
use Rattle.std.specs.List.{sum}
use Rattle.phase_c.proofs.counts.left_of.Given as goal

-- what the counts before this one leave
abbrev pub invariant-loop-count : goal.invariant-loop-count
invariant-loop-count l = l.left + sum (take l.count-index l.counts) ≡ l.room
