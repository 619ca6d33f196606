-- A source stands behind those before it.
use Rattle.std.proofs.Common.{◌≡◌, ◌<◌, ℕ, length, sym, ap, ◌∙◌, arith}
use Rattle.graph_base.specs.Graphs.{is_source, task_at}
use Rattle.phase_stream.proofs.Opening.{unopened_all, unopened_more, unopened_none, unopened_not}
use Rattle.phase_stream.proofs.session.unopened.Goals as goal
use Rattle.phase_stream.proofs.session.unopened.Goals.{then-is_source+in_ok-push, else-is_source}

pub loop-t-init : goal.loop-t-init
loop-t-init g c =
    rw c.in_ok-sources.ensures.items (unopened_none g.R.Read.remaining c.args.job.now)

pub loop-t-preserved : goal.loop-t-preserved
loop-t-preserved g c =
    let t : ℕ = c.loop-t.t in
    let job = c.args.job.now in
    let sources = c.loop-t.sources.items in
    let count = c.tasks-t-end.ensures.count in
    let graph = ap (λ g. length g.tasks) c.graph-2.ensures.graph in
    let there : t < length job.graph.tasks = let lt = c.loop-t-test.true in omega arith in
    let same : is_source (task_at job.graph t).kind ≡ c.is_source.result =
    ap (λ graph. is_source (task_at graph t).kind) (sym c.graph-in-loop-t.ensures.graph)
    ∙ sym c.is_source.ensures in
    elim c.if-is_source.branch [
      | then-is_source+in_ok-push w ↦
          rw (w.sources-is, w.in_ok-push.ensures.items) (unopened_more g.R.Read.remaining job t
          sources w.unopened.result c.loop-t.invariant there (same ∙ w.if-is_source.true)
          w.unopened.ensures.task w.unopened.ensures.fresh)
      | else-is_source w ↦
          rw w.sources-is (unopened_not g.R.Read.remaining job t sources c.loop-t.invariant there
          (same ∙ w.if-is_source.false))
    ]

pub returns : goal.returns
returns g c = λ held.
    unopened_all g.R.Read.remaining held c.args.job.now c.loop-t.t c.loop-t.sources.items
    c.loop-t.invariant
