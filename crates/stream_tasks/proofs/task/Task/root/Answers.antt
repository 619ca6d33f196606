-- A root begins at its first moment.
use Rattle.std.proofs.Common.{◌≡◌, ◌≤◌, ℕ, length, subst, sym, ap, ◌∙◌, arith}
use Rattle.graph_base.specs.Graphs.{Graph, task_at}
use Rattle.graph_base.specs.Registrations.{registrations_of}
use Rattle.graph_base.specs.TaskLines.{IsGraph}
use Rattle.graph_runs.specs.Nexts.{registrations_at}
use Rattle.stream_tasks.specs.Tasks.{IsTask}
use Rattle.stream_tasks.proofs.Seeding.{are_roots, seen_by, begins}
use Rattle.stream_tasks.proofs.task.Task.root.Goals as goal

pub invariant_of-result : goal.invariant_of-result
invariant_of-result g c =
    let job = c.args.job.now in
    let s = c.args.seed.state in
    let t : ℕ = s.number in
    let seed = c.requires.seed in
    let has = c.requires.received in
    let all = c.requires.all in
    let is = subst IsGraph c.graph-2.ensures.graph c.tasks-lines.ensures.graph in
    let roots = are_roots job g.J.Run.spots s has all in
    let long = has.long ∙ all in
    let first = c.roots_begin.ensures job t s.numbers.items (seen_by s.holds.items) is seed.there
    c.requires.root long roots in
    let own = c.first_calls.ensures.root job first.0 t s.numbers.items (seen_by s.holds.items) is
    seed.there c.requires.root long roots first.1 in
    let count : c.registrations-few.result ≡ length (registrations_at job t) =
    c.registrations-few.ensures.count
    ∙ ap (λ (graph : Graph). length (registrations_of graph (task_at graph c.number.result)))
    c.graph.ensures.graph
    ∙ ap (λ (n : ℕ). length (registrations_at job n)) c.number.ensures in
    let few = c.registrations-few.ensures.few in
    let wide = c.requires.room.lefts in
    let room : length (registrations_at job t) ≤ s.lefts.cap = omega arith in (
      c.requires.job,
      subst (IsTask g.J.Run.job g.J.Run.spots) (sym c.open.ensures)
          (subst (λ j. IsTask j g.J.Run.spots s) c.requires.job
          (begins job g.J.Run.spots s is c.requires.root seed has all room
          (first.0, first.1, own))),
      tt,
    )
