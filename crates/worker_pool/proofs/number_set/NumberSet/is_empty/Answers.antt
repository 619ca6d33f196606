use Rattle.std.proofs.Common.{ap, ◌∙◌, rules, ◌<◌, ◌^◌, ◌==◌}
use Rattle.std.specs.Int.{bit_at}
use Rattle.std.proofs.lemmas.Bool.{eqb-true, eq-eqb}
use Rattle.worker_pool.proofs.Sets.{empty_is, zero_has}
use Rattle.worker_pool.proofs.number_set.NumberSet.is_empty.Goals as goal

-- no bit is set just where the bits are 0
pub returns : goal.returns
returns c =
    let fits : c.args.self.bits < 2 ^ 64 = search rules in (
      λ is n within. ap (λ b. bit_at b n == 1) (eqb-true _ 0 is) ∙ zero_has n,
      λ none. eq-eqb _ 0 (empty_is c.args.self.bits fits none),
    )
