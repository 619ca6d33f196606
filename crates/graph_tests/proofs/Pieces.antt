-- Samples that can be sent, cut into pieces.
use Rattle.std.proofs.Common.{ℕ, ℤ, List, [], drop, ◌-◌}
use Rattle.std.specs.List.{slice_range}
use Rattle.phase_accum.specs.Sends.{AreSends}
use Rattle.phase_accum.proofs.Parts.{AreSends-take, AreSends-drop}

pub sends_between : (from to : ℕ) (xs : List ℤ) → AreSends xs → AreSends (slice_range xs from to)
sends_between from to xs are = AreSends-take (to - from) (drop from xs) (AreSends-drop from xs are)
