use Rattle.std.proofs.Common.{rules, arith, ◌≡◌, ◌<◌, length, get_or, pos, Some, None, sym, ap, subst, ◌∙◌, w64, to_z, of_z, FitsSigned}
use Rattle.std.specs.List.{position_from}
use Rattle.std.proofs.lemmas.Int.{to_z-of_z}
use Rattle.stream_lists.specs.Lists.{mixed}
use Rattle.stream_lists.specs.Ranges.{is_out_of_range}
use Rattle.stream_eval.proofs.Made.{MadeInRange-more, MadeInRange-fault, MadeInRange-all}
use Rattle.stream_eval.proofs.Mixing.{length-mixed, next_mixed}
use Rattle.stream_eval.proofs.list.mixed_list.Goals as goal

-- this value is the first out of range
pub returns-in_default-mix-clause-too_big : goal.returns-in_default-mix-clause-too_big
returns-in_default-mix-clause-too_big c step e =
    let mul = to_z w64 (of_z w64 c.args.mul) in
    let mul_is : mul ≡ c.args.mul = to_z-of_z w64 c.args.mul c.ranges.mul in
    let fits_x : FitsSigned w64 (get_or c.args.xs.now c.loop-step.step (pos 0)) = search rules in
    let fits_e : FitsSigned w64 c.entry_of.result = search rules in
    let within : c.loop-step.step < length (mixed mul c.args.xs.now c.args.es.now) =
    omega (arith, length-mixed mul c.args.xs.now c.args.es.now, c.loop-step-test.true) in
    let next = next_mixed mul c.args.xs.now c.args.es.now c.loop-step.step _ _ _
    c.loop-step-test.true
    (to_z-of_z w64 _ fits_x) (to_z-of_z w64 _ fits_e ∙ c.entry_of.ensures) c.mix.ensures in
    let here = MadeInRange-fault _ _ _ c.in_default-mix.field-0 c.loop-step.invariant within
    (sym next ∙ c.in_default-mix.is) in
    let same : c.loop-step.step ≡ step = grind (arith, e) in
    subst (λ m. position_from is_out_of_range 0 (mixed m c.args.xs.now c.args.es.now) ≡ Some step)
    mul_is (here ∙ ap Some same)

-- this value is in range
pub loop-step-preserved : goal.loop-step-preserved
loop-step-preserved c =
    let mul = to_z w64 (of_z w64 c.args.mul) in
    let fits_x : FitsSigned w64 (get_or c.args.xs.now c.loop-step.step (pos 0)) = search rules in
    let fits_e : FitsSigned w64 c.entry_of.result = search rules in
    let fits_y : FitsSigned w64 c.in-Ok-mix.y = search rules in
    let within : c.loop-step.step < length (mixed mul c.args.xs.now c.args.es.now) =
    omega (arith, length-mixed mul c.args.xs.now c.args.es.now, c.loop-step-test.true) in
    let next = next_mixed mul c.args.xs.now c.args.es.now c.loop-step.step _ _ _
    c.loop-step-test.true
    (to_z-of_z w64 _ fits_x) (to_z-of_z w64 _ fits_e ∙ c.entry_of.ensures) c.mix.ensures in
    rw (c.in-Ok-push.ensures.items, to_z-of_z w64 c.in-Ok-mix.y fits_y)
    (MadeInRange-more _ _ _ c.in-Ok-mix.y c.loop-step.invariant within (sym next ∙ c.in-Ok-mix.is))

-- all values are made
pub returns-clause-ok : goal.returns-clause-ok
returns-clause-ok c =
    let mul = to_z w64 (of_z w64 c.args.mul) in
    let mul_is : mul ≡ c.args.mul = to_z-of_z w64 c.args.mul c.ranges.mul in
    (MadeInRange-all _ _ _ c.loop-step.invariant
    (omega (arith, length-mixed mul c.args.xs.now c.args.es.now, c.loop-step-test.false))).0
    ∙ ap (λ m. mixed m c.args.xs.now c.args.es.now) mul_is

pub returns-clause-in_range : goal.returns-clause-in_range
returns-clause-in_range c =
    let mul = to_z w64 (of_z w64 c.args.mul) in
    let mul_is : mul ≡ c.args.mul = to_z-of_z w64 c.args.mul c.ranges.mul in
    subst (λ m. position_from is_out_of_range 0 (mixed m c.args.xs.now c.args.es.now) ≡ None)
    mul_is
    (MadeInRange-all _ _ _ c.loop-step.invariant
    (omega (arith, length-mixed mul c.args.xs.now c.args.es.now, c.loop-step-test.false))).1
