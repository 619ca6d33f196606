use Rattle.std.proofs.Common.{rules, ◌++◌, ◌∷◌, [], ℕ, ℤ, pos, get_or, take, subst, w64, FitsSigned, ◌∙◌}
use Rattle.std.proofs.lemmas.Int.{to_z-of_z}
use Rattle.stream_filters.specs.Filter.{StandsFor}
use Rattle.phase_c.proofs.Streams.{one_more}
use Rattle.phase_c.proofs.filter.take_in.Goals as goal

-- one more sample was taken
pub loop-x-preserved : goal.loop-x-preserved
loop-x-preserved c =
    let samples = c.args.samples.now in
    let i : ℕ = c.loop-x.x-index in
    let x : ℤ = get_or samples i (pos 0) in
    let fits : FitsSigned w64 x = search rules in
    let l = c.loop-x.invariant in
    record {
      stands = λ before s. subst (StandsFor c.take.new.self)
          (one_more before samples i (pos 0) c.loop-x-test.true)
          (subst (λ z. StandsFor c.take.new.self ((before ++ take i samples) ++ z ∷ []))
          (to_z-of_z w64 x fits)
          (c.take.ensures.stands (before ++ take i samples) (l.stands before s)));
      taps = c.take.ensures.taps ∙ l.taps;
      form = c.take.ensures.form ∙ l.form;
    }
