use Rattle.std.proofs.Common.{rules, ℤ, w64, FitsSigned}
use Rattle.std.proofs.lemmas.Int.{to_z-of_z}
use Rattle.phase_c.proofs.formed.form_of.Goals as goal

-- no single is named
pub returns-in-None-clause-only : goal.returns-in-None-clause-only
returns-in-None-clause-only c form named =
    let low : ℤ = c.args.lent.now.low in
    let high : ℤ = c.args.lent.now.high in
    let low_fits : FitsSigned w64 low = search rules in
    let high_fits : FitsSigned w64 high = search rules in
    absurd (c.single_of.ensures.none c.in-None.is form.single
    (rw (to_z-of_z w64 low low_fits, to_z-of_z w64 high high_fits) named.names))
