use Rattle.std.proofs.Common.{ℕ, ◌<◌, [], map, get_or}
use Rattle.stream_tasks.specs.Agreeing.{AreOfTasks}
use Rattle.stream_tasks.proofs.ending.given_numbers.all_of_tasks.Given as goal

-- those of the phasers before this one are tasks'
abbrev pub invariant-loop-p : goal.invariant-loop-p
invariant-loop-p l = (q : ℕ) → q < l.p
    → AreOfTasks l.job l.parts q (get_or (map (λ g. g.items) l.gave) q [])
