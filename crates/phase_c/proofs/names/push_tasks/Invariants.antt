-- The names of the tasks before this one stand behind what was there.
use Rattle.std.proofs.Common.{◌≡◌, ◌++◌, take}
use Rattle.phase_c.specs.Names.{tasks_text}
use Rattle.phase_c.proofs.names.push_tasks.Given as goal

abbrev pub invariant-loop-k : goal.invariant-loop-k
invariant-loop-k l =
    l.names.items ≡ l.fn.names.items ++ tasks_text l.graph (take l.k l.tasks)
