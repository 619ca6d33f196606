use Rattle.std.proofs.Common.{ℕ, ◌<◌}
use Rattle.stream_tasks.specs.Agreeing.{Agrees}
use Rattle.stream_tasks.proofs.ending.agreeing.all_agree.Given as goal

-- those before this one agree
abbrev pub invariant-loop-c : goal.invariant-loop-c
invariant-loop-c l = (u : ℕ) → u < l.c → Agrees l.job l.parts u
