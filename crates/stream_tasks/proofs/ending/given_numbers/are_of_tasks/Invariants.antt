use Rattle.std.proofs.Common.{◌≡◌, ℕ, ◌<◌, Some, slice_get}
use Rattle.stream_tasks.specs.Agreeing.{IsNumberOfTask}
use Rattle.stream_tasks.proofs.ending.given_numbers.are_of_tasks.Given as goal

-- those before this one are tasks'
abbrev pub invariant-loop-k : goal.invariant-loop-k
invariant-loop-k l = (j a : ℕ) → j < l.k → slice_get l.gave j ≡ Some a → IsNumberOfTask l.job l.parts l.p a
