use Rattle.std.proofs.Common.{◌≡◌, ◌∷◌, [], ◌++◌, length, w64, sym, ap, subst, ◌∙◌, arith}
use Rattle.std.specs.Vec.{vec_len}
use Rattle.std.proofs.lemmas.Bool.Decides.{nat_tests}
use Rattle.std.proofs.lemmas.Int.{to_z-of_z}
use Rattle.stream_filters.specs.Filter.{StandsFor, after_sample, output_of, put_of, taps_again, with_put, with_sample}
use Rattle.stream_filters.specs.Weighing.{after_weighed}
use Rattle.stream_filters.proofs.Firs.{StandsFor-sample, fir_with, length-again, with_put-none, with_sample-fields}
use Rattle.stream_filters.proofs.fir.Fir.take.Goals as goal
use Rattle.stream_filters.proofs.fir.Fir.take.Goals.{After-take}

-- the taps for what it put are as many as the form says
many : (c : After-take)
    → length (taps_again c.args.self.now.taps c.args.self.now.form) ≡ c.args.self.now.form.again
many c = rw (← c.self.view_is) (length-again _ c.self.inside.weigher.form c.self.invariant.are_taps)

-- the weigher took the sample
taken : (c : After-take)
    → fir_with c.take.new.self c.self.inside.again.items c.self.inside.puts.items
    ≡ with_sample c.args.self.now c.args.x
taken c =
    let w = c.self.inside.weigher in
    with_sample-fields w c.take.new.self c.self.inside.again.items c.self.inside.puts.items c.args.x
    c.self.invariant.again
    (c.take.ensures.window ∙ ap (after_weighed w) (to_z-of_z w64 c.args.x c.ranges.x))
    ∙ ap (λ fir. with_sample fir c.args.x) c.self.view_is

pub returns-then-not-is_empty-clause-window : goal.returns-then-not-is_empty-clause-window
returns-then-not-is_empty-clause-window c =
    let fir = fir_with c.take.new.self c.self.inside.again.items c.self.inside.puts.items in
    let here = (goal.at.returns-then-not-is_empty-clause-window c).After-take in
    c.put.ensures (output_of fir) c.answer.ensures
    ∙ ap (λ fir. with_put fir (put_of (output_of fir))) (taken here)

pub returns-then-not-is_empty-clause-stands : goal.returns-then-not-is_empty-clause-stands
returns-then-not-is_empty-clause-stands c samples stands =
    let fir = fir_with c.take.new.self c.self.inside.again.items c.self.inside.puts.items in
    let here = (goal.at.returns-then-not-is_empty-clause-stands c).After-take in
    subst (λ new. StandsFor new (samples ++ c.args.x ∷ []))
    (sym (c.put.ensures (output_of fir) c.answer.ensures
    ∙ ap (λ fir. with_put fir (put_of (output_of fir))) (taken here)))
    (StandsFor-sample c.args.self.now samples c.args.x stands (many here))

-- it weighs nothing that it put
left : (c : goal.Else-not-is_empty)
    → fir_with c.take.new.self c.self.inside.again.items c.self.inside.puts.items
    ≡ after_sample c.args.self.now c.args.x
left c =
    let here = (goal.at.returns-else-not-is_empty-clause-stands c).After-take in
    let y = put_of (output_of (with_sample c.args.self.now c.args.x)) in
    let none : vec_len c.self.inside.again ≡ 0 =
    grind (arith, nat_tests, c.is_empty.ensures, c.if-not-is_empty.false) in
    with_put-none c.take.new.self c.self.inside.again.items c.self.inside.puts.items y
    (omega (arith, c.self.invariant.again, ap (λ form. form.again) c.take.ensures.form, none))
    ∙ ap (λ fir. with_put fir y) (taken here)

pub returns-else-not-is_empty-clause-window : goal.returns-else-not-is_empty-clause-window
returns-else-not-is_empty-clause-window c = left c

pub returns-else-not-is_empty-clause-stands : goal.returns-else-not-is_empty-clause-stands
returns-else-not-is_empty-clause-stands c samples stands =
    let here = (goal.at.returns-else-not-is_empty-clause-stands c).After-take in
    subst (λ new. StandsFor new (samples ++ c.args.x ∷ [])) (sym (left c))
    (StandsFor-sample c.args.self.now samples c.args.x stands (many here))
