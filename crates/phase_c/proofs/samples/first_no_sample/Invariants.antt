use Rattle.std.proofs.Common.{take}
use Rattle.phase_accum.specs.Sends.{AreSends}
use Rattle.phase_c.proofs.samples.first_no_sample.Given as goal

-- the numbers before this place are samples
abbrev pub invariant-loop-at : goal.invariant-loop-at
invariant-loop-at l = AreSends (take l.at l.samples)
