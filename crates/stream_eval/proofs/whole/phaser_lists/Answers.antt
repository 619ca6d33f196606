use Rattle.std.proofs.Common.{arith, ◌≡◌, ◌<◌, ◌+◌, ◌++◌, ◌∷◌, [], length, Err, ap, sym, ◌∙◌, get_or}
use Rattle.std.proofs.lemmas.List.{length_push, length-map, map_push}
use Rattle.graph_base.specs.Graphs.{Graph}
use Rattle.stream_lists.specs.JobFields.{items_of}
use Rattle.stream_lists.specs.Lists.{numbers_up_to}
use Rattle.stream_lists.specs.Ranges.{fault_on}
use Rattle.stream_eval.specs.declared.fault.EvalFault.TheVariants as fault
use Rattle.stream_lists.proofs.Firsts.{first-pass, first-here}
use Rattle.stream_lists.specs.Spans.{schedule_of}
use Rattle.stream_eval.proofs.Agreeing.{kept-agree, kept-next, fault_over-same}
use Rattle.stream_eval.proofs.Dropped.{written-back}
use Rattle.stream_eval.specs.Composing.{list_kept}
use Rattle.stream_eval.proofs.whole.phaser_lists.Goals as goal

-- the first fault is this phaser's
pub returns-in-Err-clause-too_big : goal.returns-in-Err-clause-too_big
returns-in-Err-clause-too_big g c place n e =
    let job = c.args.job.now in
    let count = ap (λ (graph : Graph). length graph.phasers) c.graph-2.ensures.graph in
    let within : c.loop-p.p < length job.graph.phasers = omega
    (arith, count, c.loop-p-test.true, c.phasers-p-end.ensures.count) in
    let same : c.in-Err.fault ≡ fault.TooBig place n = grind (arith, e) in
    let here = c.phaser_list.ensures.too_big place n (c.in-Err.is ∙ ap Err same) in
    let above = numbers_up_to job (schedule_of job) c.loop-p.p in
    let lent = ap items_of c.as_slice.ensures.value in
    let agree = kept-agree job c.loop-p.p (items_of c.as_slice.result.now) above
    (λ q. ap (λ xs. get_or xs q []) lent ∙ c.loop-p.invariant.kept q) in
    c.loop-p.invariant.none_yet ∙ first-here (fault_on job) _ c.loop-p.p (place, n) within
    (sym (fault_over-same job (schedule_of job) c.loop-p.p _ above agree within) ∙ here)

-- and none where it has a list
pub loop-p-preserved : goal.loop-p-preserved
loop-p-preserved g c =
    let job = c.args.job.now in
    let count = ap (λ (graph : Graph). length graph.phasers) c.graph-2.ensures.graph in
    let within : c.loop-p.p < length job.graph.phasers = omega
    (arith, count, c.loop-p-test.true, c.phasers-p-end.ensures.count) in
    let above = numbers_up_to job (schedule_of job) c.loop-p.p in
    let lent = c.as_slice.ensures.value in
    let agree = kept-agree job c.loop-p.p (items_of c.as_slice.result.now) above
    (λ q. ap (λ xs. get_or (items_of xs) q []) lent ∙ c.loop-p.invariant.kept q) in
    let list = c.in-Ok-phaser_list.list in
    let items = c.as_mut_slice.ensures.value ∙ c.in-Ok-push.ensures.items
    ∙ ap (λ xs. xs ++ list ∷ []) (sym lent) in
    let whole = written-back c.drop_read.new.lists c.push.new.self.items c.push.new.self.len
    (c.drop_read.ensures.length ∙ ap length c.as_mut_slice.ensures.value) (omega arith) in
    let long : length c.as_slice.result.now ≡ c.loop-p.p = ap length lent ∙ c.loop-p.invariant.long in
    rw whole record {
      kept = kept-next job c.loop-p.p (items_of c.as_slice.result.now)
          (items_of c.drop_read.new.lists) list.items agree
          (length-map c.as_slice.result.now (λ v. v.items) ∙ long) within
          c.in-Ok-phaser_list.ensures.ok
          (λ q. c.drop_read.ensures.each q
          ∙ ap (λ xs. list_kept job (c.loop-p.p + 1) xs q)
          (ap items_of items ∙ map_push (λ v. v.items) c.as_slice.result.now list));
      long = omega (
        arith,
        c.drop_read.ensures.length,
        ap length items,
        length_push c.as_slice.result.now list,
        long,
      );
      sends = c.drop_read.ensures.sends;
      none_yet = c.loop-p.invariant.none_yet ∙ first-pass (fault_on job) _ c.loop-p.p within
          (sym (fault_over-same job (schedule_of job) c.loop-p.p _ above agree within)
          ∙ c.in-Ok-phaser_list.ensures.fits);
    }
