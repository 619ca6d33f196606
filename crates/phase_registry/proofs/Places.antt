-- What a search finds among members whose numbers rise.
use Rattle.std.proofs.Common.{◌≡◌, ℕ, zero, suc, ◌<◌, ◌≤◌, ◌≢◌, cond, [], ◌∷◌, length, get_or, set, Option, Some, None, Result, Ok, Err, IfOk, IfErr, refl, sym, ap, arith, ◌∙◌}
use Rattle.std.specs.Prelude.{IsSome}
use Rattle.std.specs.List.Sorted.{IsSearchInRange, IsBinarySearchResult, IsNonDecreasingBy}
use Rattle.std.specs.Ordering.{nat_cmp, ordering_index}
use Rattle.std.proofs.lemmas.Cmp.{ranked}
use Rattle.std.proofs.lemmas.List.Sorted.{IsNonDecreasingBy-from_default}
use Rattle.std.proofs.lemmas.Bool.Decides.{nat_tests}
use Rattle.std.proofs.lemmas.Bool.{false≢true, eq-eqb, ne_eqb}
use Rattle.phase_base.specs.declared.entry.Entry.{Entry}
use Rattle.phase_base.specs.declared.member.Member.{Member}
use Rattle.phase_base.specs.Members.{Members, member, entry_of, changed_at}
use Rattle.phase_registry.specs.Rosters.{nobody, number_at, AreRising}
use Rattle.phase_registry.specs.NumberPlaces.{IsAt, IsGapFor}

module _ (l : Members) (rising : AreRising l) (k : ℕ) where
  comparisons_rise : IsNonDecreasingBy (λ m. ordering_index (nat_cmp m.task k)) l
  comparisons_rise = IsNonDecreasingBy-from_default (λ m. ordering_index (nat_cmp m.task k)) l (member 0 nobody) (λ i j le in_range.
      let numbers_rise : number_at l i ≤ number_at l j = grind (arith, rising i j, λ (same : i ≡ j). ap (number_at l) same) in
      grind (arith, nat_tests))

  -- a binary search by number ends at the number, or at the gap for it
  pub searched : (r : Result ℕ ℕ) → IsSearchInRange r (length l) → IsBinarySearchResult (λ m. nat_cmp m.task k) l r
      → record { found : IfOk r (IsAt l k); absent : IfErr r (IsGapFor l k) }
  searched (Ok at) in_range equal = record { found = record { in_range = in_range; has_number = ranked _ k _ (sym (equal (member 0 nobody))) }; absent = tt }
  searched (Err at) in_range parted = record {
    found = tt;
    absent = record {
      smaller_before = λ j lt. ranked _ k _ (sym ((parted comparisons_rise).0 j (member 0 nobody) (omega arith) lt));
      greater_after = λ j le lt. ranked _ k _ (sym ((parted comparisons_rise).1 j (member 0 nobody) le lt));
    };
  }

-- no member has the number
pub entry_of-absent : (l : Members) (k : ℕ) → ((j : ℕ) → j < length l → number_at l j ≢ k) → entry_of l k ≡ None
entry_of-absent [] k none = refl
entry_of-absent (m ∷ l) k none =
    ap (λ b. cond b (Some m.entry) (entry_of l k)) (ne_eqb m.task k (none 0 (omega arith)))
    ∙ entry_of-absent l k (λ j lt. none (suc j) (omega arith))

-- the first member that has it
entry_of-first : (l : Members) (k i : ℕ) (d : Member) → IsAt l k i → ((j : ℕ) → j < i → number_at l j ≢ k) → entry_of l k ≡ Some (get_or l i d).entry
entry_of-first [] k i d at none = absurd (omega (arith, at.in_range))
entry_of-first (m ∷ l) k zero d at none = ap (λ b. cond b (Some m.entry) (entry_of l k)) (eq-eqb m.task k at.has_number)
entry_of-first (m ∷ l) k (suc i) d at none =
    ap (λ b. cond b (Some m.entry) (entry_of l k)) (ne_eqb m.task k (none 0 (omega arith)))
    ∙ entry_of-first l k i d (record { in_range = omega (arith, at.in_range); has_number = at.has_number }) (λ j lt. none (suc j) (omega arith))

pub entry_of-at : (l : Members) (k i : ℕ) (d : Member) → AreRising l → IsAt l k i → entry_of l k ≡ Some (get_or l i d).entry
entry_of-at l k i d rising at = entry_of-first l k i d at (λ j lt same. omega (arith, rising j i lt at.in_range, at.has_number))

pub entry_of-gap : (l : Members) (k i : ℕ) → IsGapFor l k i → entry_of l k ≡ None
entry_of-gap l k i gap = entry_of-absent l k (λ j lt same. grind (arith, gap.smaller_before j, gap.greater_after j))

-- the numbers stay where an entry changes
pub changed_at-place : (l : Members) (k i : ℕ) (d : Member) (f : Entry → Entry) → IsAt l k i → ((j : ℕ) → j < i → number_at l j ≢ k)
    → set l i (member k (f (get_or l i d).entry)) ≡ changed_at k f l
changed_at-place [] k i d f at none = refl
changed_at-place (m ∷ l) k zero d f at none =
    let same : m.task ≡ k = at.has_number in
    ap (λ n. member n (f m.entry) ∷ l) (sym same) ∙ sym (ap (λ b. cond b (member m.task (f m.entry) ∷ l) (m ∷ changed_at k f l)) (eq-eqb m.task k same))
changed_at-place (m ∷ l) k (suc i) d f at none =
    ap (λ ms. m ∷ ms) (changed_at-place l k i d f (record { in_range = omega (arith, at.in_range); has_number = at.has_number }) (λ j lt. none (suc j) (omega arith)))
    ∙ sym (ap (λ b. cond b (member m.task (f m.entry) ∷ l) (m ∷ changed_at k f l)) (ne_eqb m.task k (none 0 (omega arith))))

-- what is not there is no member's entry
pub not_member : (o : Option Entry) → o ≡ None → IsSome o → ⊥
not_member None gone some = false≢true some
not_member (Some e) gone some = absurd (cc)
