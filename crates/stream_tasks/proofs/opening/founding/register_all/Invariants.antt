use Rattle.std.proofs.Common.{◌≡◌}
use Rattle.stream_tasks.specs.Openings.{AreFounders}
use Rattle.stream_tasks.specs.Seeds.{seed_state, IsReadySeed}
use Rattle.stream_tasks.proofs.opening.founding.register_all.Given as goal

-- the registrations before this one are made
abbrev pub invariant-loop-i : goal.invariant-loop-i
invariant-loop-i g l =
    AreFounders l.job g.J.Run.spots l.founders
    × IsReadySeed l.job g.J.Run.spots l.i (seed_state l.seed)
    × ((seed_state l.seed).number ≡ l.t)
