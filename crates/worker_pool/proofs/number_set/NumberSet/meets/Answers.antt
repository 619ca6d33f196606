use Rattle.std.proofs.Common.{◌≡◌, rules, arith, ◌<◌, ◌^◌, bit_and}
use Rattle.std.specs.Int.{bit_at}
use Rattle.std.proofs.lemmas.Bool.{not-true, not_from_false, eqb-true, eqb-false, eq-eqb, ne_eqb}
use Rattle.std.proofs.lemmas.Nat.{and_le_l}
use Rattle.std.proofs.lemmas.Nat.Bits.{bit_at-zero}
use Rattle.worker_pool.proofs.Sets.{lowest, in_both, common_has}
use Rattle.worker_pool.proofs.number_set.NumberSet.meets.Goals as goal

-- the lowest common bit, where there is one
pub returns : goal.returns
returns c =
    let a = c.args.self.bits in
    let b = c.args.other.bits in
    let fits : c.args.self.bits < 2 ^ 64 = search rules in (
      λ is.
          let some = eqb-false (bit_and a b) 0 (not-true _ is) in
          let low = lowest (bit_and a b) (omega arith) (omega (arith, and_le_l a b)) in
          let set = in_both a b _ low.1 in
          record {
            number = _;
            below = low.0;
            first = eq-eqb _ 1 set.0;
            second = eq-eqb _ 1 set.1;
          },
      λ meet. not_from_false _ (ne_eqb (bit_and a b) 0 (λ none.
          let set =
          common_has a b meet.number (eqb-true _ 1 meet.first) (eqb-true _ 1 meet.second) in
          let not_set : bit_at (bit_and a b) meet.number ≡ 0 = rw none (bit_at-zero meet.number) in
          omega arith)),
    )
