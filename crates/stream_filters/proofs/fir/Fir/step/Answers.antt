use Rattle.std.proofs.Common.{◌≡◌, ◌∷◌, [], ◌++◌, length, w64, sym, ap, subst, ◌∙◌}
use Rattle.std.proofs.lemmas.Int.{to_z-of_z}
use Rattle.stream_filters.specs.Filter.{StandsFor, output_of, put_of, taps_again, with_put, with_sample}
use Rattle.stream_filters.specs.Range.{ranged}
use Rattle.stream_filters.specs.Weighing.{after_weighed}
use Rattle.stream_filters.proofs.Firs.{StandsFor-sample, fir_with, length-again, output_of-sample, with_sample-fields}
use Rattle.stream_filters.proofs.fir.Fir.step.Goals as goal

-- the taps for what it put are as many as the form says
many : (c : goal.After-put)
    → length (taps_again c.args.self.now.taps c.args.self.now.form) ≡ c.args.self.now.form.again
many c = rw (← c.self.view_is) (length-again _ c.self.inside.weigher.form c.self.invariant.are_taps)

-- the weigher took the sample
taken : (c : goal.After-put)
    → fir_with c.take.new.self c.self.inside.again.items c.self.inside.puts.items
    ≡ with_sample c.args.self.now c.args.x
taken c =
    let w = c.self.inside.weigher in
    with_sample-fields w c.take.new.self c.self.inside.again.items c.self.inside.puts.items c.args.x
    c.self.invariant.again
    (c.take.ensures.window ∙ ap (after_weighed w) (to_z-of_z w64 c.args.x c.ranges.x))
    ∙ ap (λ fir. with_sample fir c.args.x) c.self.view_is

pub returns-clause-answer : goal.returns-clause-answer
returns-clause-answer c samples stands =
    c.answer-answer.ensures
    ∙ (ap (λ fir. ranged (output_of fir)) (taken c)
    ∙ ap ranged (output_of-sample c.args.self.now samples c.args.x stands (many c)))

pub returns-clause-stands : goal.returns-clause-stands
returns-clause-stands c samples stands =
    let fir = fir_with c.take.new.self c.self.inside.again.items c.self.inside.puts.items in
    subst (λ new. StandsFor new (samples ++ c.args.x ∷ []))
    (sym (c.put.ensures (output_of fir) c.answer-answer.ensures
    ∙ ap (λ fir. with_put fir (put_of (output_of fir))) (taken c)))
    (StandsFor-sample c.args.self.now samples c.args.x stands (many c))
