use Rattle.std.proofs.Common.{rules, arith, ◌≡◌, ◌+◌, get_or, take, pos, sym, ap, ◌∙◌, w64, FitsSigned}
use Rattle.std.specs.Int.{w128}
use Rattle.std.proofs.lemmas.Int.{to_z-of_z}
use Rattle.stream_filters.specs.Filter.{output_behind, outputs}
use Rattle.stream_filters.specs.Range.{ranged}
use Rattle.stream_filters.proofs.InTurn.{next-output, put_of-more}
use Rattle.stream_filters.proofs.Made.{MadeSoFar-fault, MadeSoFar-more}
use Rattle.stream_filters.proofs.Outputs.{outputs-length}
use Rattle.stream_filters.proofs.whole_list.add_each_in_turn.Goals as goal
use Rattle.stream_filters.proofs.whole_list.add_each_in_turn.Goals.{After-in_range}

-- the answer is that of the next output
next : (c : After-in_range) → ranged (get_or (outputs c.args.taps.now c.args.form.now c.args.samples.now) c.loop-n.n (pos 0))
    ≡ c.in_range.result
next c =
    let taps = c.args.taps.now in
    let form = c.args.form.now in
    let samples = c.args.samples.now in
    let n = c.loop-n.n in
    let fits : FitsSigned w128 c.output_behind.result = search rules in
    ap ranged (next-output taps form samples c.loop-n.list.items n c.loop-n.invariant.made
    c.loop-n.invariant.put (omega (arith, c.requires.within, c.loop-n-test.true))
    ∙ (ap (λ l. output_behind taps form (take (n + 1) samples) l) (sym c.deref.ensures.value)
    ∙ sym (to_z-of_z w128 _ fits ∙ c.output_behind.ensures)))
    ∙ sym c.in_range.ensures

-- the next output is the first out of range
pub returns-in_default-clause-too_big : goal.returns-in_default-clause-too_big
returns-in_default-clause-too_big c step e =
    let here = MadeSoFar-fault (outputs c.args.taps.now c.args.form.now c.args.samples.now) _
    c.loop-n.n c.in_default.field-0 c.loop-n.invariant.made
    (omega (arith, outputs-length c.args.taps.now c.args.form.now c.args.samples.now, c.requires.within, c.loop-n-test.true))
    (next (goal.at.returns-in_default-clause-too_big c).After-in_range ∙ c.in_default.is) in
    grind (arith, here, e)

-- the next output is in range
pub loop-n-preserved : goal.loop-n-preserved
loop-n-preserved c =
    let taps = c.args.taps.now in
    let samples = c.args.samples.now in
    let n = c.loop-n.n in
    let fits : FitsSigned w64 c.in-Ok.y = search rules in
    let answer = next (goal.at.loop-n-preserved c).After-in_range ∙ c.in-Ok.is in
    rw (c.in-Ok-push.ensures.items, to_z-of_z w64 c.in-Ok.y fits) (record {
      made = MadeSoFar-more (outputs taps c.args.form.now samples) _ n c.in-Ok.y c.loop-n.invariant.made
          (omega (arith, outputs-length taps c.args.form.now samples, c.requires.within, c.loop-n-test.true)) answer;
      put = put_of-more _ (get_or (outputs taps c.args.form.now samples) n (pos 0)) c.in-Ok.y c.loop-n.invariant.put answer;
    })
