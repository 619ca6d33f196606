-- A column behind those before it.
use Rattle.std.proofs.Common.{◌≡◌, ◌∙◌, ℕ, sym, ap}
use Rattle.graph_base.specs.Graphs.{is_sink, task_at}
use Rattle.phase_stream.proofs.TakenLines.{new_more, new_same}
use Rattle.phase_stream.proofs.table.Table.new.Goals as goal
use Rattle.phase_stream.proofs.table.Table.new.Goals.{then-is_sink+in_ok-push, else-is_sink}

pub loop-task-preserved : goal.loop-task-preserved
loop-task-preserved c =
    let t : ℕ = c.loop-task.task in
    let job = c.args.job.now in
    let columns = c.loop-task.columns.items in
    let same : is_sink (task_at job.graph t).kind ≡ c.is_sink.result =
    ap (λ graph. is_sink (task_at graph t).kind) (sym c.graph-in-loop-task.ensures.graph)
    ∙ sym c.is_sink.ensures in
    elim c.if-is_sink.branch [
      | then-is_sink+in_ok-push w ↦
          rw (w.columns-is, w.in_ok-push.ensures.items) (new_more job t columns w.new.result
          c.loop-task.invariant (same ∙ w.if-is_sink.true) w.new.ensures)
      | else-is_sink w ↦
          rw w.columns-is (new_same job t columns c.loop-task.invariant (same ∙ w.if-is_sink.false))
    ]
