-- Events that are told, phaser by phaser.
use Rattle.std.proofs.Common.{◌≡◌, ◌∙◌, ◌%◌, ℕ, ◌<◌, List, get_or, set, length, true, false, ◌==◌, ◌&&◌, not, inl, inr, arith}
use Rattle.std.proofs.lemmas.List.{get_or-set_same, get_or-set_other, length-set}
use Rattle.std.proofs.lemmas.Bool.{cases_eq, both_ways}
use Rattle.worker_pool.specs.declared.number_set.NumberSet.{NumberSet}
use Rattle.worker_pool.specs.NumberSets.{has}
use Rattle.worker_pool.proofs.Sets.{left_is, gone_is}

-- those that are left have their old counts, and of the others those that have events the next
pub record HasNoted (events rest : NumberSet) (next : ℕ) (old new : List ℕ) : Type 0 where
  pub long : length new ≡ 64
  pub left : (p : ℕ) → p < 64 → has rest p ≡ true → has events p ≡ true
  pub noted : (p : ℕ) → p < 64 → has rest p ≡ false → has events p ≡ true → get_or new p 0 ≡ next
  pub others : (p : ℕ) → p < 64 → has events p ≡ false → get_or new p 0 ≡ get_or old p 0

-- one phaser more
pub notes : (events rest less : NumberSet) (next : ℕ) (old now : List ℕ) (phaser : ℕ) → phaser < 64
    → has rest phaser ≡ true → HasNoted events rest next old now
    → ((m : ℕ) → m < 64 → has less m ≡ (has rest m && not (m == phaser % 64)))
    → HasNoted events less next old (set now phaser next)
notes events rest less next old now phaser small here so_far out = record {
  long = length-set now phaser next ∙ so_far.long;
  left = λ p within is. so_far.left p within (left_is rest less phaser p small within out is).0;
  noted = λ p within is has_it.
      elim (gone_is rest less phaser p small within out is) [
        | inl same ↦ rw same (get_or-set_same now phaser next 0 (omega (arith, so_far.long)))
        | inr other ↦
            get_or-set_other now phaser p next 0 other.0 ∙ so_far.noted p within other.1 has_it
      ];
  others = λ p within none.
      elim (cases_eq p phaser) [
        | inl same ↦ absurd (both_ways _ (rw (← same) none) (so_far.left phaser small here))
        | inr other ↦ get_or-set_other now phaser p next 0 other ∙ so_far.others p within none
      ];
}
