use Rattle.std.proofs.Common.{rules, arith, ◌<◌, length, pos, sym, ap, ◌∙◌, w64, FitsSigned}
use Rattle.std.proofs.lemmas.Int.{to_z-of_z}
use Rattle.stream_filters.specs.Weighing.{weighed}
use Rattle.stream_filters.specs.Range.{ranged}
use Rattle.stream_filters.proofs.Made.{MadeSoFar-more, MadeSoFar-fault}
use Rattle.stream_filters.proofs.PlainLists.{weighed-entry, weighed-length}
use Rattle.stream_filters.proofs.whole_list.add_each.Goals as goal

-- the next output is the first out of range
pub returns-in_default-clause-too_big : goal.returns-in_default-clause-too_big
returns-in_default-clause-too_big c step e =
    let taps = c.args.taps.now in
    let samples = c.args.samples.now in
    let n = c.loop-n.n in
    let below : n < length samples = omega (arith, c.requires.within, c.loop-n-test.true) in
    let next = weighed-entry taps c.args.form.now samples n (pos 0) below in
    let here = MadeSoFar-fault (weighed taps c.args.form.now samples) _ n c.in_default.field-0
    c.loop-n.invariant
    (omega (arith, weighed-length taps c.args.form.now samples))
    (ap ranged next ∙ (sym c.last_weighed.ensures ∙ c.in_default.is)) in
    grind (arith, here, e)

-- the next output is in range
pub loop-n-preserved : goal.loop-n-preserved
loop-n-preserved c =
    let taps = c.args.taps.now in
    let samples = c.args.samples.now in
    let n = c.loop-n.n in
    let below : n < length samples = omega (arith, c.requires.within, c.loop-n-test.true) in
    let next = weighed-entry taps c.args.form.now samples n (pos 0) below in
    let fits : FitsSigned w64 c.in-Ok.y = search rules in
    rw (c.in-Ok-push.ensures.items, to_z-of_z w64 c.in-Ok.y fits)
    (MadeSoFar-more (weighed taps c.args.form.now samples) _ n c.in-Ok.y c.loop-n.invariant
    (omega (arith, weighed-length taps c.args.form.now samples))
    (ap ranged next ∙ (sym c.last_weighed.ensures ∙ c.in-Ok.is)))
