use Rattle.std.proofs.Common.{◌<◌, ◌++◌, ◌∷◌, [], ℕ, Bool, length, ap, sym, ◌∙◌, arith}
use Rattle.std.proofs.lemmas.List.Elements.{All-push}
use Rattle.graph_base.specs.Graphs.{is_sink, task_at}
use Rattle.stream_lists.proofs.Firsts.{filter-skip, filter-take}
use Rattle.phase_c.proofs.sinks.sinks_of.Goals as goal
use Rattle.phase_c.proofs.sinks.sinks_of.Goals.{then-is_sink+in_ok-push, else-is_sink}

-- a sink stands behind those before it
pub loop-t-preserved : goal.loop-t-preserved
loop-t-preserved c =
    let tasks = c.args.graph.now.tasks in
    let p : ℕ → Bool = λ t. is_sink (task_at c.args.graph.now t).kind in
    let t : ℕ = c.loop-t.t in
    let there : t < length tasks =
    omega (arith, c.tasks-t-end.ensures.count, c.loop-t-test.true) in
    elim c.if-is_sink.branch [
      | then-is_sink+in_ok-push w ↦
          rw (w.sinks-is, w.in_ok-push.ensures.items) record {
            sinks = ap (λ ns. ns ++ t ∷ []) c.loop-t.invariant.sinks
                ∙ sym (filter-take p t (sym c.is_sink.ensures ∙ w.if-is_sink.true));
            tasks = All-push (λ u. u < length tasks) c.loop-t.sinks.items t
                c.loop-t.invariant.tasks there;
          }
      | else-is_sink w ↦
          rw w.sinks-is record {
            sinks = c.loop-t.invariant.sinks
                ∙ sym (filter-skip p t (sym c.is_sink.ensures ∙ w.if-is_sink.false));
            tasks = c.loop-t.invariant.tasks;
          }
    ]
