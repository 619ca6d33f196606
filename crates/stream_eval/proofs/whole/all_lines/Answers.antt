use Rattle.std.proofs.Common.{◌≡◌, ◌++◌, ◌∷◌, [], map, ap, sym, ◌∙◌}
use Rattle.std.proofs.lemmas.List.{map_push}
use Rattle.std.proofs.lemmas.List.Elements.{All-push}
use Rattle.std.specs.List.{range_with_len, filter}
use Rattle.graph_base.specs.Graphs.{is_sink, task_at}
use Rattle.stream_lists.specs.Lists.{sink_over, is_sink_at, start_in}
use Rattle.stream_eval.specs.Results.{sink_values}
use Rattle.stream_lists.specs.JobFields.{items_of}
use Rattle.stream_lists.proofs.Firsts.{filter-skip, filter-take}
use Rattle.stream_lists.specs.Spans.{schedule_of}
use Rattle.stream_eval.proofs.whole.all_lines.Goals as goal
use Rattle.stream_eval.proofs.whole.all_lines.Goals.{then-is_sink+in-Ok-sink_lines+in-Ok-push, else-is_sink}

-- a sink stands behind those before it
pub loop-t-preserved : goal.loop-t-preserved
loop-t-preserved c =
    let job = c.args.job.now in
    let over = sink_over job (schedule_of job) (items_of c.args.lists.now) in
    let before = filter (is_sink_at job) (range_with_len 0 c.loop-t.t) in
    let same = ap (λ graph. is_sink (task_at graph c.loop-t.t).kind) (sym c.graph-in-loop-t.ensures.graph) in
    elim c.if-is_sink.branch [
      | then-is_sink+in-Ok-sink_lines+in-Ok-push w ↦
          rw (w.lines-is, w.in-Ok-push.ensures.items) (
            map_push sink_values c.loop-t.lines.items w.in-Ok-sink_lines.one
                ∙ (ap (λ xs. xs ++ sink_values w.in-Ok-sink_lines.one ∷ []) c.loop-t.invariant.0
                ∙ (ap (λ v. map over before ++ v ∷ []) w.in-Ok-sink_lines.ensures.ok
                ∙ (sym (map_push over before c.loop-t.t)
                ∙ ap (map over) (sym (filter-take (is_sink_at job) c.loop-t.t
                (same ∙ sym c.is_sink.ensures ∙ w.if-is_sink.true)))))),
            All-push (λ line. line.start ≡ start_in job line.task) c.loop-t.lines.items
                w.in-Ok-sink_lines.one c.loop-t.invariant.1 w.in-Ok-sink_lines.ensures.start,
          )
      | else-is_sink w ↦
          rw w.lines-is (
            c.loop-t.invariant.0 ∙ ap (map over) (sym (filter-skip (is_sink_at job) c.loop-t.t
                (same ∙ sym c.is_sink.ensures ∙ w.if-is_sink.false))),
            c.loop-t.invariant.1,
          )
    ]
