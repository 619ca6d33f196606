use Rattle.std.proofs.Common.{◌≤◌, ◌+◌, ◌++◌, ◌∷◌, [], ap, sym, ◌∙◌}
use Rattle.std.proofs.lemmas.List.{length_push}
use Rattle.std.proofs.lemmas.List.Elements.{All-push}
use Rattle.stream_lists.specs.Jobs.{counted}
use Rattle.stream_lists.specs.Spans.{length_on, lengths_up_to, spans_over}
use Rattle.stream_lists.specs.declared.span.TheConstants.{LENGTH_MAX}
use Rattle.stream_lists.proofs.Firsts.{fold-range_more}
use Rattle.stream_lists.proofs.lengths.all_lengths.Goals as goal

-- this phaser's length stands behind those before it
pub loop-p-preserved : goal.loop-p-preserved
loop-p-preserved c =
    let job = counted c.args.graph.now c.args.counts.now in
    let before = lengths_up_to job c.loop-p.p in
    let above = c.as_slice.ensures.value ∙ c.loop-p.invariant.0 in
    let spans = c.deref.ensures.value ∙ (c.in_ok-spans.ensures.spans ∙ ap (spans_over job) above) in
    let length_is = c.longest.ensures.length
    ∙ ap (λ s. length_on c.args.graph.now s c.loop-p.p) spans in
    rw c.in_ok-push.ensures.items (
      ap (λ xs. xs ++ c.longest.result ∷ []) c.loop-p.invariant.0
          ∙ (ap (λ n. before ++ n ∷ []) length_is
          ∙ sym (fold-range_more
          (λ a p. a ++ length_on c.args.graph.now (spans_over job a) p ∷ []) [] c.loop-p.p)),
      All-push (λ n. n ≤ LENGTH_MAX) c.loop-p.lengths.items c.longest.result
          c.loop-p.invariant.1 c.longest.ensures.short,
      length_push c.loop-p.lengths.items c.longest.result ∙ ap (λ n. n + 1) c.loop-p.invariant.2,
    )
