-- A sink with its values and its start stands behind those before it.
use Rattle.std.proofs.Common.{rules, ◌≡◌, ℕ, ℤ, ◌<◌, List, [], ◌∷◌, ◌++◌, None, get_or, map, length, sym, ap, ◌∙◌, arith}
use Rattle.std.specs.List.{range_with_len, filter}
use Rattle.std.proofs.lemmas.List.{map_push}
use Rattle.std.proofs.lemmas.List.Elements.{All-push}
use Rattle.graph_base.specs.Graphs.{Graph, is_sink, task_at}
use Rattle.stream_eval.specs.Results.{sink_values}
use Rattle.stream_lists.specs.Lists.{is_sink_at}
use Rattle.stream_lists.proofs.Firsts.{filter-skip, filter-take}
use Rattle.stream_tasks.specs.TaskLefts.{part_lines, part_start, lines_at}
use Rattle.stream_tasks.proofs.Added.{behind_set, same_place}
use Rattle.stream_tasks.proofs.ending.lines.sink_lines.Goals as goal
use Rattle.stream_tasks.proofs.ending.lines.sink_lines.Goals.{then-is_sink+in_ok-push, else-is_sink}

pub loop-t-preserved : goal.loop-t-preserved
loop-t-preserved c =
    let job = c.args.job.now in
    let t : ℕ = c.loop-t.t in
    let i = c.loop-t.invariant in
    let sinks = filter (is_sink_at job) (range_with_len 0 t) in
    let at_t = ap (λ graph. is_sink (task_at graph t).kind) (sym c.graph-in-loop-t.ensures.graph) in
    let one : ℕ → ℕ × List ℤ = λ u. (u, lines_at c.args.parts.items u) in
    let count = c.tasks-t-end.ensures.count in
    let graph = ap (λ (g : Graph). length g.tasks) c.graph-2.ensures.graph in
    let many = c.requires in
    let there : t < length job.graph.tasks = omega (arith, count, graph, c.loop-t-test.true) in
    let lt : t < length c.args.parts.items = omega (arith, there, many) in
    let same = i.2 in
    elim c.if-is_sink.branch [
      | then-is_sink+in_ok-push w ↦
          (let value : w.lines_of-values.result.items ≡ lines_at c.args.parts.items t =
          w.lines_of-values.ensures ∙ ap part_lines
          (w.take.ensures.value ∙ (w.index_mut.ensures.value
          ∙ same_place c.loop-t.parts.items c.args.parts.items t w.index_mut.result.now None
          (omega arith) lt (i.1 t (omega arith)))) in
          let start : w.start_of-start.result
          ≡ part_start (task_at job.graph t).joins_now (get_or c.args.parts.items t None) =
          w.start_of-start.ensures
          ∙ ap (part_start (task_at job.graph t).joins_now)
          (w.index.ensures
          ∙ same_place c.loop-t.parts.items c.args.parts.items t w.index.result.now None
          (omega arith) lt (i.1 t (omega arith))) in
          rw (w.lines-is, w.parts-is, w.in_ok-push.ensures.items) (
            map_push sink_values c.loop-t.lines.items _
                ∙ (ap (λ xs. xs ++ (t, w.lines_of-values.result.items) ∷ []) i.0
                ∙ (ap (λ v. map one sinks ++ (t, v) ∷ []) value
                ∙ (sym (map_push one sinks t)
                ∙ ap (map one)
                (sym (filter-take (is_sink_at job) t (at_t ∙ sym c.is_sink.ensures ∙ w.if-is_sink.true)))))),
            behind_set c.loop-t.parts.items c.args.parts.items t w.take.new.self i.1,
            search rules,
            All-push (λ line. line.start ≡ part_start (task_at job.graph line.task).joins_now
                (get_or c.args.parts.items line.task None)) c.loop-t.lines.items _ i.3 start,
            All-push (λ line. line.task < length job.graph.tasks) c.loop-t.lines.items _ i.4 there,
          ))
      | else-is_sink w ↦
          rw (w.lines-is, w.parts-is) (
            i.0 ∙ ap (map one)
                (sym (filter-skip (is_sink_at job) t (at_t ∙ sym c.is_sink.ensures ∙ w.if-is_sink.false))),
            λ u le. i.1 u (omega arith),
            i.2,
            i.3,
            i.4,
          )
    ]
