use Rattle.std.proofs.Common.{◌≡◌, drop}
use Rattle.stream_tasks.specs.TaskLefts.{given_to}
use Rattle.stream_tasks.proofs.ending.agreeing.given_to.Given as goal

-- none before this one is the task's
abbrev pub invariant-loop-i : goal.invariant-loop-i
invariant-loop-i l = given_to (drop l.i l.given) l.c ≡ given_to l.given l.c
