use Rattle.std.proofs.Common.{rules, ◌≡◌, ◌∷◌, [], ◌++◌, ◌+◌, length, get_or, take, pos, refl, sym, ap, subst, ◌∙◌, arith, w64, to_z, of_z, SFits, to_z-of_z, List, ℤ}
use Rattle.std.proofs.lemmas.List.{length_push}
use Rattle.stream_filters.specs.Filter.{StandsFor, output_after}
use Rattle.stream_filters.specs.FilterFields.{HasStepped}
use Rattle.stream_filters.specs.Range.{ranged}
use Rattle.stream_filters.proofs.Stepped.{HasStepped-none, HasStepped-more, HasStepped-ended}
use Rattle.stream_filters.proofs.fir.Fir.each.Goals as goal
use Rattle.stream_filters.proofs.fir.Fir.each.Goals.{After-branch-step}

pub loop-x-init : goal.loop-x-init
loop-x-init c = (HasStepped-none c.args.self.now c.args.made.now.items, omega arith, refl)

-- the sample that is taken
x_is : (c : After-branch-step)
    → to_z w64 (of_z w64 (get_or c.args.samples.now c.loop-x.x-index (pos 0)))
    ≡ get_or c.args.samples.now c.loop-x.x-index (pos 0)
x_is c =
    let fits : SFits w64 (get_or c.args.samples.now c.loop-x.x-index (pos 0)) = search rules in
    to_z-of_z fits

answer : (c : After-branch-step) (taken : List ℤ) → StandsFor c.loop-x.self taken
    → c.step.result ≡ ranged (output_after c.loop-x.self.taps c.loop-x.self.form
    (taken ++ get_or c.args.samples.now c.loop-x.x-index (pos 0) ∷ []))
answer c taken has =
    subst (λ x. c.step.result
    ≡ ranged (output_after c.loop-x.self.taps c.loop-x.self.form (taken ++ x ∷ []))) (x_is c)
    (c.step.ensures.answer taken has)

stands : (c : After-branch-step) (taken : List ℤ) → StandsFor c.loop-x.self taken
    → StandsFor c.step.new.self
    (taken ++ get_or c.args.samples.now c.loop-x.x-index (pos 0) ∷ [])
stands c taken has =
    subst (λ x. StandsFor c.step.new.self (taken ++ x ∷ [])) (x_is c)
    (c.step.ensures.stands taken has)

-- it ends with this sample
pub returns-in_err-step-clause-steps : goal.returns-in_err-step-clause-steps
returns-in_err-step-clause-steps c =
    let told = (goal.at.returns-in_err-step-clause-steps c).After-branch-step in
    HasStepped-ended c.args.self.now c.loop-x.self c.step.new.self c.args.samples.now
    c.args.made.now.items c.loop-x.made.items c.loop-x.x-index c.loop-x-test.true
    c.loop-x.invariant.0 c.loop-x.invariant.1 (stands told) c.step.ensures.taps
    c.step.ensures.form c.in_err-step.field-0.0
    (λ taken has. sym c.in_err-step.was ∙ answer told taken has)

-- one output more
pub loop-x-preserved : goal.loop-x-preserved
loop-x-preserved c =
    let told = (goal.at.loop-x-preserved c).After-branch-step in
    let y : SFits w64 c.in_ok-step.field-0 = search rules in
    let items : c.push_reserved.new.self.items ≡ c.loop-x.made.items ++ c.in_ok-step.field-0 ∷ [] =
    subst (λ v. c.push_reserved.new.self.items ≡ c.loop-x.made.items ++ v ∷ []) (to_z-of_z y)
    c.push_reserved.ensures.items in (
      subst (λ l. HasStepped c.args.self.now c.step.new.self (take (c.loop-x.x-index + 1) c.args.samples.now)
          c.args.made.now.items l) (sym items)
          (HasStepped-more c.args.self.now c.loop-x.self c.step.new.self c.args.samples.now
          c.args.made.now.items c.loop-x.made.items c.loop-x.x-index c.loop-x-test.true
          c.loop-x.invariant.0 c.loop-x.invariant.1 (stands told) c.step.ensures.taps
          c.step.ensures.form c.in_ok-step.field-0
          (λ taken has. sym c.in_ok-step.was ∙ answer told taken has)),
      omega (
        arith,
        ap length items,
        length_push c.loop-x.made.items c.in_ok-step.field-0,
        c.loop-x.invariant.1,
      ),
      c.push_reserved.ensures.capacity ∙ c.loop-x.invariant.2,
    )
