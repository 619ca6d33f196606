use Rattle.std.proofs.Common.{arith, map, ap, sym, ◌∙◌}
use Rattle.std.specs.Prelude.{max}
use Rattle.std.specs.List.{range_with_len}
use Rattle.stream_lists.specs.Spans.{end_of, greatest}
use Rattle.stream_lists.proofs.Firsts.{fold-map_more}
use Rattle.stream_lists.proofs.lengths.longest.Goals as goal

-- this task's end too
pub loop-t-preserved : goal.loop-t-preserved
loop-t-preserved c =
    let ends = end_of c.args.graph.now c.args.spans.now c.args.p in
    let before = greatest (map ends (range_with_len 0 c.loop-t.t)) in (
      c.max-end.ensures
          ∙ (ap (λ n. max n c.end_on.result) c.loop-t.invariant.0
          ∙ (ap (λ n. max before n) c.end_on.ensures.end
          ∙ sym (fold-map_more max 0 ends c.loop-t.t))),
      grind (arith, c.max-end.ensures, c.loop-t.invariant.1, c.end_on.ensures.short),
    )
