-- The names of the tasks before this one stand behind what was there.
use Rattle.std.proofs.Common.{◌≡◌, ◌++◌}
use Rattle.std.specs.List.{range_with_len}
use Rattle.phase_c.specs.Names.{tasks_text}
use Rattle.phase_c.proofs.names.push_all_tasks.Given as goal

abbrev pub invariant-loop-t : goal.invariant-loop-t
invariant-loop-t l =
    l.names.items ≡ l.fn.names.items ++ tasks_text l.graph (range_with_len 0 l.t)
