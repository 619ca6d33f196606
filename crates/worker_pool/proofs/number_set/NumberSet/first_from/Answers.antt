use Rattle.std.proofs.Common.{◌<◌, ◌^◌, rules, arith}
use Rattle.std.proofs.lemmas.Bool.{eqb-true, eq-eqb}
use Rattle.worker_pool.proofs.Sets.{first_above, first_below, zero_has}
use Rattle.worker_pool.proofs.number_set.NumberSet.first_from.Goals as goal

-- the lowest from `from` on
pub returns-then-above-ne0 : goal.returns-then-above-ne0
returns-then-above-ne0 c =
    let fits : c.args.self.bits < 2 ^ 64 = search rules in
    let first =
    first_above c.args.self.bits c.args.from fits (omega (arith, c.if-above-ne0.true)) in
    record {
      below = first.0;
      is_in = eq-eqb _ 1 first.1;
      first = λ m within has. first.2 m within (eqb-true _ 1 has);
    }

-- the lowest of all
pub returns-then-self-ne0 : goal.returns-then-self-ne0
returns-then-self-ne0 c =
    let fits : c.args.self.bits < 2 ^ 64 = search rules in
    let first =
    first_below c.args.self.bits c.args.from fits (omega (arith, c.if-self-ne0.true))
    c.if-above-ne0.false in
    record {
      below = first.0;
      is_in = eq-eqb _ 1 first.1;
      first = λ m within has. first.2 m within (eqb-true _ 1 has);
    }

-- none
pub returns : goal.returns
returns c = λ n within. rw c.if-self-ne0.false (zero_has n)
