-- The steps so far.
use Rattle.std.proofs.Common.{◌≡◌}
use Rattle.stream_job.specs.Passing.{MakesSteps}
use Rattle.stream_job.proofs.machine.Machine.pass_on.Given as goal

abbrev pub invariant-loop : goal.invariant-loop
invariant-loop l =
    MakesSteps l.job l.fn.self l.self l.t l.moved × (l.self.lines ≡ l.fn.self.lines)
    × (l.buffers ≡ l.fn.buffers)
