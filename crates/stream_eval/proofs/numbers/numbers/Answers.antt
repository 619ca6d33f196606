use Rattle.std.proofs.Common.{rules, arith, ◌≡◌, ◌<◌, ◌++◌, ◌∷◌, [], length, Some, sym, ap, ◌∙◌, w64, FitsSigned}
use Rattle.std.specs.Prelude.{◌&&◌}
use Rattle.std.proofs.lemmas.Int.{to_z-of_z}
use Rattle.phase_accum.specs.Values.{applied}
use Rattle.phase_accum.proofs.Parts.{AreSends-append}
use Rattle.graph_base.specs.Graphs.{phaser_at}
use Rattle.stream_lists.specs.Lists.{number, number_in}
use Rattle.stream_lists.specs.Ranges.{is_fault, is_too_big, is_taken}
use Rattle.graph_base.specs.declared.place.Place.TheVariants as place
use Rattle.stream_lists.proofs.Firsts.{find-pass, find-here}
use Rattle.stream_lists.specs.Spans.{schedule_of}
use Rattle.stream_eval.proofs.Sends.{value_of_part}
use Rattle.stream_eval.proofs.Composed.{numbers-more}
use Rattle.stream_eval.proofs.numbers.numbers.Goals as goal

-- this phase is the first fault
pub returns-then-is_faulty-clause-too_big : goal.returns-then-is_faulty-clause-too_big
returns-then-is_faulty-clause-too_big g c where_it_is n e members has =
    let within : c.loop-n.n < length c.args.parts.now = search rules in
    let value = value_of_part g.A.Accumulate.operation c.args.parts.now members c.loop-n.n
    c.index-parts-n.result c.finish-outcome.result g.met.A.Accumulate.laws has within
    c.index-parts-n.is c.finish-outcome.ensures in
    let fault = ap (λ o. is_too_big o && is_taken c.args.job.now (schedule_of c.args.job.now) c.args.p
    c.loop-n.n) (sym value) ∙ (sym c.is_faulty.ensures ∙ c.if-is_faulty.true) in
    let here = c.loop-n.invariant.2 members has
    ∙ find-here (is_fault g.A.Accumulate.operation.value c.args.job.now (schedule_of c.args.job.now)
    members c.args.p) _ c.loop-n.n within fault in
    let is : where_it_is ≡ place.Phaser c.args.p = grind (arith, e) in
    let number_is : c.loop-n.n ≡ n = grind (arith, e) in
    (is, here ∙ ap Some number_is)

-- this phase is none, and its number stands behind the others
pub loop-n-preserved : goal.loop-n-preserved
loop-n-preserved g c =
    let within : c.loop-n.n < length c.args.parts.now = search rules in
    let fits : FitsSigned w64 c.number_at.result = search rules in
    let pushed = c.in-Ok-push.ensures.items
    ∙ ap (λ v. c.loop-n.list.items ++ v ∷ []) (to_z-of_z w64 c.number_at.result fits) in (
      λ members has. pushed ∙ numbers-more
          (number_in g.A.Accumulate.operation.value c.args.job.now c.args.p members)
          c.loop-n.list.items c.loop-n.n c.number_at.result
          (c.loop-n.invariant.0 members has)
          (c.number_at.ensures.value
          ∙ ap (λ o. number (applied (phaser_at c.args.job.now.graph c.args.p).single o))
          (value_of_part g.A.Accumulate.operation c.args.parts.now members c.loop-n.n
          c.index-parts-n.result c.finish-outcome.result g.met.A.Accumulate.laws has within
          c.index-parts-n.is c.finish-outcome.ensures)),
      rw pushed (AreSends-append c.loop-n.list.items (c.number_at.result ∷ []) c.loop-n.invariant.1
          (c.number_at.ensures.send, tt)),
      λ members has. c.loop-n.invariant.2 members has
          ∙ find-pass (is_fault g.A.Accumulate.operation.value c.args.job.now
          (schedule_of c.args.job.now) members c.args.p) _ c.loop-n.n within
          (ap (λ o. is_too_big o && is_taken c.args.job.now (schedule_of c.args.job.now) c.args.p
          c.loop-n.n) (sym (value_of_part g.A.Accumulate.operation c.args.parts.now members
          c.loop-n.n c.index-parts-n.result c.finish-outcome.result g.met.A.Accumulate.laws has
          within c.index-parts-n.is c.finish-outcome.ensures))
          ∙ (sym c.is_faulty.ensures ∙ c.if-is_faulty.false)),
    )
