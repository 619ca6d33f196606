use Rattle.std.proofs.Common.{◌≡◌, ◌+◌, length}
use Rattle.graph_runs.specs.Nexts.{registrations_at}
use Rattle.stream_tasks.proofs.TakingIn.{AreTakenIn}
use Rattle.stream_tasks.proofs.ending.joining.take_all_in.Given as goal

-- what was popped is taken in
abbrev pub invariant-loop : goal.invariant-loop
invariant-loop l =
    AreTakenIn l.job l.t l.fn.joined.items l.joined.items l.fn.lefts.items l.lefts.items
    × (length l.lefts.items + l.counter ≡ length (registrations_at l.job l.t))
