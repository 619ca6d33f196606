use Rattle.stream_tasks.specs.Standings.{PutsStands}
use Rattle.stream_tasks.proofs.task.Task.stand.Given as goal

abbrev pub invariant-loop-k : goal.invariant-loop-k
invariant-loop-k g l =
    PutsStands g.J.Run.job l.task l.initial.stands.items l.stands.items
