-- A sink with no values stands behind those before it.
use Rattle.std.proofs.Common.{ℕ, sym, ap, ◌∙◌}
use Rattle.graph_base.specs.Graphs.{is_sink, task_at}
use Rattle.stream_lists.specs.Jobs.{least}
use Rattle.stream_lists.specs.Spans.{span_in}
use Rattle.stream_job.proofs.StreamLines.{line_more, line_not}
use Rattle.stream_job.proofs.opening.opened_lines.Goals as goal
use Rattle.stream_job.proofs.opening.opened_lines.Goals.{then-is_sink+in_ok-opened_line+in_ok-push, else-is_sink}

pub loop-t-preserved : goal.loop-t-preserved
loop-t-preserved c =
    let t : ℕ = c.loop-t.t in
    let job = c.args.job.now in
    let lines = c.loop-t.lines.items in
    let needs : ℕ → ℕ = λ u. (span_in (least job) u).steps in
    let same = ap (λ graph. is_sink (task_at graph t).kind) (sym c.graph-in-loop-t.ensures.graph) in
    elim c.if-is_sink.branch [
      | then-is_sink+in_ok-opened_line+in_ok-push w ↦
          let line = w.in_ok-opened_line.field-0 in
          let told = w.in_ok-opened_line.ensures in
          rw (w.lines-is, w.in_ok-push.ensures.items) (line_more job needs t lines line
          c.loop-t.invariant (same ∙ sym c.is_sink.ensures ∙ w.if-is_sink.true)
          told.line told.start told.own)
      | else-is_sink w ↦
          rw w.lines-is (line_not job needs t lines c.loop-t.invariant
          (same ∙ sym c.is_sink.ensures ∙ w.if-is_sink.false))
    ]
