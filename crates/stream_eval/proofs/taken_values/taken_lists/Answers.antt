use Rattle.std.proofs.Common.{◌+◌, ◌++◌, ◌∷◌, [], map, ap, sym, ◌∙◌, zero-add}
use Rattle.std.specs.List.{range_with_len}
use Rattle.std.proofs.lemmas.List.{map_push, length_push}
use Rattle.std.proofs.lemmas.List.Elements.{All-push}
use Rattle.std.proofs.lemmas.List.FromFn.{map-range_with_len_more}
use Rattle.phase_accum.specs.Sends.{AreSends}
use Rattle.graph_base.specs.GraphFields.{task_of}
use Rattle.stream_lists.specs.JobFields.{items_of}
use Rattle.stream_lists.specs.Lists.{taken_from}
use Rattle.stream_eval.proofs.taken_values.taken_lists.Goals as goal

-- one more input
pub loop-k-preserved : goal.loop-k-preserved
loop-k-preserved c =
    let taken = taken_from (items_of c.args.above.now) (task_of c.args.task.now) c.args.span in
    rw c.in_ok-push.ensures.items (
      map_push (λ x. x.now) c.loop-k.lists.items c.taken_at.result
          ∙ (ap (λ xs. xs ++ c.taken_at.result.now ∷ []) c.loop-k.invariant.0
          ∙ (ap (λ v. map taken (range_with_len 0 c.loop-k.k) ++ v ∷ []) c.taken_at.ensures.value
          ∙ sym (map-range_with_len_more taken 0 c.loop-k.k c.loop-k.k (zero-add c.loop-k.k)))),
      All-push (λ x. AreSends x.now) c.loop-k.lists.items c.taken_at.result
          c.loop-k.invariant.1 c.taken_at.ensures.sends,
      length_push c.loop-k.lists.items c.taken_at.result ∙ ap (λ n. n + 1) c.loop-k.invariant.2,
    )
