use Rattle.stream_tasks.specs.Seeds.{AreChildrenBelow}
use Rattle.stream_tasks.proofs.seed.children_of.Given as goal

-- the children among the tasks before this one
abbrev pub invariant-loop-c : goal.invariant-loop-c
invariant-loop-c l = AreChildrenBelow l.job l.task l.c l.children.items
