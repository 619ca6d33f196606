-- A child that comes here is due where it is not registered.
use Rattle.std.proofs.Common.{◌≡◌, ◌&&◌, is_some, true, ap, sym, ◌∙◌}
use Rattle.graph_base.specs.Graphs.{task_at}
use Rattle.graph_runs.specs.Nexts.{comes_by, first_missing}
use Rattle.stream_job.proofs.machine.Machine.is_due.Goals as goal

pub returns-then-comes_by : goal.returns-then-comes_by
returns-then-comes_by c = λ s m at.
    let job = c.args.job.now in
    let parent = (task_at job.graph c.args.c).parent in
    let comes : comes_by c.args.t (m.begun c.args.t) parent ≡ true =
    ap (λ n. comes_by c.args.t n parent) (c.state.ensures s m at).stands.begun
    ∙ ap (comes_by c.args.t c.state.result.now.begun) (sym c.parent_of.ensures)
    ∙ sym c.comes_by.ensures ∙ c.if-comes_by.true in
    ap (λ b. b && is_some (first_missing job m c.args.c)) comes
    ∙ c.is_registered.ensures s m (c.state-then-comes_by.ensures s m at).stands
