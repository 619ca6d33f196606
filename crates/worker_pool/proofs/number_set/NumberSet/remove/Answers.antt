use Rattle.std.proofs.Common.{ap, ◌∙◌, arith, rules, refl, ◌%◌, ◌&&◌, not, ◌<◌, ◌^◌}
use Rattle.std.proofs.lemmas.Bool.{eqb-true, eq-eqb}
use Rattle.worker_pool.proofs.Sets.{without_has, without_less}
use Rattle.worker_pool.specs.NumberSets.{has}
use Rattle.worker_pool.proofs.number_set.NumberSet.remove.Goals as goal

-- a bit other than that of the number stays
pub returns-clause-others : goal.returns-clause-others
returns-clause-others c = λ n within.
    let fits : c.of.result.bits < 2 ^ 64 = search rules in
    without_has c.args.self.now.bits c.of.result.bits n fits within
    ∙ ap (λ b. has c.args.self.now n && not b) (c.of.ensures n)

-- where its bit was set, the bits are a smaller number
pub returns-clause-less : goal.returns-clause-less
returns-clause-less c = λ had.
    let fits : c.of.result.bits < 2 ^ 64 = search rules in
    let taken = eqb-true _ 1 (c.of.ensures (c.args.number % 64) ∙ eq-eqb _ _ refl) in
    without_less c.args.self.now.bits c.of.result.bits (c.args.number % 64) fits (omega arith)
    (eqb-true _ 1 had) taken
