use Rattle.std.proofs.Common.{◌<◌, ◌++◌, ◌∷◌, [], ℕ, Bool, length, ap, sym, ◌∙◌, arith}
use Rattle.std.proofs.lemmas.List.Elements.{All-push}
use Rattle.graph_base.specs.Graphs.{is_source, task_at}
use Rattle.stream_lists.proofs.Firsts.{filter-skip, filter-take}
use Rattle.phase_c.proofs.names.sources_of.Goals as goal
use Rattle.phase_c.proofs.names.sources_of.Goals.{then-is_source+in_ok-push, else-is_source}

-- a source stands behind those before it
pub loop-t-preserved : goal.loop-t-preserved
loop-t-preserved c =
    let tasks = c.args.graph.now.tasks in
    let p : ℕ → Bool = λ t. is_source (task_at c.args.graph.now t).kind in
    let t : ℕ = c.loop-t.t in
    let there : t < length tasks =
    omega (arith, c.tasks-t-end.ensures.count, c.loop-t-test.true) in
    elim c.if-is_source.branch [
      | then-is_source+in_ok-push w ↦
          rw (w.sources-is, w.in_ok-push.ensures.items) record {
            sources = ap (λ ns. ns ++ t ∷ []) c.loop-t.invariant.sources
                ∙ sym (filter-take p t (sym c.is_source.ensures ∙ w.if-is_source.true));
            tasks = All-push (λ u. u < length tasks) c.loop-t.sources.items t
                c.loop-t.invariant.tasks there;
          }
      | else-is_source w ↦
          rw w.sources-is record {
            sources = c.loop-t.invariant.sources
                ∙ sym (filter-skip p t (sym c.is_source.ensures ∙ w.if-is_source.false));
            tasks = c.loop-t.invariant.tasks;
          }
    ]
