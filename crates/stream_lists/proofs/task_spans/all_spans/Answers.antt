use Rattle.std.proofs.Common.{◌+◌, ◌++◌, ◌∷◌, [], ap, sym, ◌∙◌}
use Rattle.std.proofs.lemmas.List.{length_push}
use Rattle.std.proofs.lemmas.List.Elements.{All-push}
use Rattle.stream_lists.specs.JobFields.{IsShort}
use Rattle.stream_lists.specs.Jobs.{counted}
use Rattle.stream_lists.specs.Spans.{span_of, spans_up_to}
use Rattle.stream_lists.proofs.Firsts.{fold-range_more}
use Rattle.stream_lists.proofs.task_spans.all_spans.Goals as goal

-- this task's span stands behind those before it
pub loop-t-preserved : goal.loop-t-preserved
loop-t-preserved c =
    let job = counted c.args.graph.now c.args.counts.now in
    let lengths = c.args.lengths.now in
    let before = spans_up_to job lengths c.loop-t.t in
    let span_is = c.next_span.ensures.span
    ∙ ap (λ a. span_of job lengths a c.loop-t.t)
    (c.as_slice.ensures.value ∙ c.loop-t.invariant.0) in
    rw c.in_ok-push.ensures.items (
      ap (λ xs. xs ++ c.next_span.result ∷ []) c.loop-t.invariant.0
          ∙ (ap (λ s. before ++ s ∷ []) span_is
          ∙ sym (fold-range_more (λ a t. a ++ span_of job lengths a t ∷ []) [] c.loop-t.t)),
      All-push IsShort c.loop-t.spans.items c.next_span.result
          c.loop-t.invariant.1 c.next_span.ensures.short,
      length_push c.loop-t.spans.items c.next_span.result
          ∙ ap (λ n. n + 1) c.loop-t.invariant.2,
    )
