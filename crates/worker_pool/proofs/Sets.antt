-- Sets as bits.
use Rattle.std.proofs.Common.{◌≡◌, ◌≢◌, ℕ, zero, suc, ◌-◌, ◌*◌, ◌%◌, ◌^◌, ◌<◌, ◌≤◌, true, false, ◌==◌, ◌&&◌, ◌||◌, not, min, max, refl, ap, sym, ◌∙◌, ◌⊎◌, inl, inr, arith, w64, bit_and}
use Rattle.std.specs.Int.{bit_at, bit_not, trailing_zeros}
use Rattle.std.specs.Int.RustNames.{bit_or}
use Rattle.std.proofs.lemmas.Bool.{cases_eq, cases_lt, eq-eqb, ne_eqb, both_ways, and_parts, and_cases, eqb-true, eqb-false, not-true, not-false}
use Rattle.std.proofs.lemmas.Nat.{one_shl, and_le_l}
use Rattle.std.proofs.lemmas.Nat.Bits.{bit_at-lt, bit_at_or, bit_at_and, bit_at_not, bit_at-zero, bit_at-pow_same, bit_at-pow_other, bit_at-trailing_zeros, ones_shl, bit_at_mask_inside, bit_at_mask_below}
use Rattle.worker_pool.specs.declared.number_set.NumberSet.{NumberSet}
use Rattle.worker_pool.specs.NumberSets.{has, steps_from}

-- ---- one bit, as a test

either : (x y : ℕ) → x < 2 → y < 2 → (max x y == 1) ≡ ((x == 1) || (y == 1))
either zero zero p q = refl
either zero (suc zero) p q = refl
either (suc zero) zero p q = refl
either (suc zero) (suc zero) p q = refl
either zero (suc (suc y)) p q = absurd (omega arith)
either (suc zero) (suc (suc y)) p q = absurd (omega arith)
either (suc (suc x)) y p q = absurd (omega arith)

both_and_not : (x y : ℕ) → x < 2 → y < 2 → (min x (1 - y) == 1) ≡ ((x == 1) && not (y == 1))
both_and_not zero zero p q = refl
both_and_not zero (suc zero) p q = refl
both_and_not (suc zero) zero p q = refl
both_and_not (suc zero) (suc zero) p q = refl
both_and_not zero (suc (suc y)) p q = absurd (omega arith)
both_and_not (suc zero) (suc (suc y)) p q = absurd (omega arith)
both_and_not (suc (suc x)) y p q = absurd (omega arith)

-- a union has what one of the two has
pub or_has : (a b n : ℕ) → (bit_at (bit_or a b) n == 1) ≡ ((bit_at a n == 1) || (bit_at b n == 1))
or_has a b n =
    ap (λ x. x == 1) (bit_at_or a b n) ∙ either _ _ (bit_at-lt a n) (bit_at-lt b n)

-- one bit alone is set
pub one_has : (k : ℕ) → k < 64 → (n : ℕ) → (bit_at (1 * 2 ^ k % 2 ^ 64) n == 1) ≡ (n == k)
one_has k within n =
    ap (λ x. bit_at x n == 1) (one_shl k 64 within)
    ∙ elim (cases_eq n k) [
      | inl same ↦
          eq-eqb _ _ (rw same (bit_at-pow_same k)) ∙ (let e = eq-eqb n k same in rw e refl)
      | inr other ↦
          ap (λ x. x == 1) (bit_at-pow_other k n other) ∙ (let e = ne_eqb n k other in rw e refl)
    ]

-- a difference has what is in the first alone
pub without_has : (a b n : ℕ) → b < 2 ^ 64 → n < 64
    → (bit_at (bit_and a (bit_not w64 b)) n == 1) ≡ ((bit_at a n == 1) && not (bit_at b n == 1))
without_has a b n fits within =
    ap (λ x. x == 1)
    (bit_at_and a (bit_not w64 b) n ∙ ap (min (bit_at a n)) (bit_at_not w64 b n fits within))
    ∙ both_and_not _ _ (bit_at-lt a n) (bit_at-lt b n)

-- without a number that it had a set is less
pub without_less : (a b k : ℕ) → b < 2 ^ 64 → k < 64 → bit_at a k ≡ 1 → bit_at b k ≡ 1
    → bit_and a (bit_not w64 b) < a
without_less a b k fits within had taken =
    let left : ℕ = bit_and a (bit_not w64 b) in
    let gone : bit_at left k ≡ 0 =
    bit_at_and a (bit_not w64 b) k ∙ ap (min (bit_at a k)) (bit_at_not w64 b k fits within)
    ∙ rw (had, taken) refl in
    elim (cases_eq left a) [
      | inl same ↦ absurd (
          let e : bit_at left k ≡ bit_at a k = ap (λ x. bit_at x k) same in
          omega arith)
      | inr other ↦ omega (arith, and_le_l a (bit_not w64 b))
    ]

-- ---- the lowest

-- a set that is not empty has its lowest number
pub lowest : (a : ℕ) → 0 < a → a < 2 ^ 64
    → (trailing_zeros w64 a < 64) × (bit_at a (trailing_zeros w64 a) ≡ 1)
    × ((i : ℕ) → bit_at a i ≡ 1 → trailing_zeros w64 a ≤ i)
lowest a some fits =
    let low = bit_at-trailing_zeros w64 a some fits in (
      low.0,
      low.1,
      λ i set.
          elim (cases_lt i (trailing_zeros w64 a)) [
            | inl before ↦ absurd (let none = low.2 i before in omega arith)
            | inr after ↦ after
          ],
    )

-- no number is in 0
pub zero_has : (n : ℕ) → (bit_at 0 n == 1) ≡ false
zero_has n = ap (λ x. x == 1) (bit_at-zero n)

-- a set without a number is 0
pub empty_is : (a : ℕ) → a < 2 ^ 64 → ((n : ℕ) → n < 64 → (bit_at a n == 1) ≡ false) → a ≡ 0
empty_is a fits none =
    elim (cases_eq a 0) [
      | inl is ↦ is
      | inr other ↦ absurd (
          let low = lowest a (omega arith) fits in
          let has = eq-eqb _ 1 low.1 in
          both_ways _ (none _ low.0) has)
    ]

-- ---- two sets

-- a number that is in both is in what they have in common
pub common_has : (a b n : ℕ) → bit_at a n ≡ 1 → bit_at b n ≡ 1 → bit_at (bit_and a b) n ≡ 1
common_has a b n p q = bit_at_and a b n ∙ rw (p, q) refl

-- what is in common is in both
pub in_both : (a b n : ℕ) → bit_at (bit_and a b) n ≡ 1 → (bit_at a n ≡ 1) × (bit_at b n ≡ 1)
in_both a b n p =
    let e = bit_at_and a b n in
    let x = bit_at-lt a n in
    let y = bit_at-lt b n in
    (omega arith, omega arith)

-- ---- the numbers from some on

-- the mask of the numbers from k on
pub mask_has : (k n : ℕ) → k ≤ 64 → n < 64 → k ≤ n → bit_at ((2 ^ 64 - 1) * 2 ^ k % 2 ^ 64) n ≡ 1
mask_has k n few within after = rw (ones_shl 64 k few) (bit_at_mask_inside k 64 n after within)

-- it has none below
pub mask_has_not : (k n : ℕ) → k ≤ 64 → n < k → bit_at ((2 ^ 64 - 1) * 2 ^ k % 2 ^ 64) n ≡ 0
mask_has_not k n few before = rw (ones_shl 64 k few) (bit_at_mask_below k 64 n before)

-- ---- the first number from some on

-- the lowest number from `from` on is the first
pub first_above : (a from : ℕ) → a < 2 ^ 64
    → (let above = bit_and a ((2 ^ 64 - 1) * 2 ^ (from % 64) % 2 ^ 64) in 0 < above → (
    let n = trailing_zeros w64 above in
    (n < 64) × (bit_at a n ≡ 1)
    × ((m : ℕ) → m < 64 → bit_at a m ≡ 1 → steps_from from n ≤ steps_from from m)))
first_above a from fits some =
    let k : ℕ = from % 64 in
    let few : k ≤ 64 = omega arith in
    let mask : ℕ = (2 ^ 64 - 1) * 2 ^ k % 2 ^ 64 in
    let above : ℕ = bit_and a mask in
    let low = lowest above some (omega (arith, and_le_l a mask)) in
    let set = in_both a mask _ low.1 in
    let n : ℕ = trailing_zeros w64 above in
    let after : k ≤ n =
    elim (cases_lt n k) [
      | inl before ↦ absurd (let none = mask_has_not k n few before in omega arith)
      | inr it ↦ it
    ] in (
      low.0,
      set.0,
      λ m within has.
          elim (cases_lt m k) [
            | inl before ↦ omega arith
            | inr later ↦
                let least = low.2 m (common_has a mask m has (mask_has k m few within later)) in
                omega arith
          ],
    )

-- where there is none from `from` on, the lowest is the first
pub first_below : (a from : ℕ) → a < 2 ^ 64 → 0 < a
    → bit_and a ((2 ^ 64 - 1) * 2 ^ (from % 64) % 2 ^ 64) ≡ 0
    → (let n = trailing_zeros w64 a in
    (n < 64) × (bit_at a n ≡ 1)
    × ((m : ℕ) → m < 64 → bit_at a m ≡ 1 → steps_from from n ≤ steps_from from m))
first_below a from fits some none =
    let k : ℕ = from % 64 in
    let few : k ≤ 64 = omega arith in
    let mask : ℕ = (2 ^ 64 - 1) * 2 ^ k % 2 ^ 64 in
    let low = lowest a some fits in
    let n : ℕ = trailing_zeros w64 a in
    let before : (m : ℕ) → m < 64 → bit_at a m ≡ 1 → m < k =
    λ m within has. elim (cases_lt m k) [
      | inl it ↦ it
      | inr later ↦ absurd (
          let is : bit_at (bit_and a mask) m ≡ 1 =
          common_has a mask m has (mask_has k m few within later) in
          let zero_is : bit_at (bit_and a mask) m ≡ 0 = rw none (bit_at-zero m) in
          omega arith)
    ] in (
      low.0,
      low.1,
      λ m within has.
          let least = low.2 m has in
          let one = before m within has in
          let other = before n low.0 low.1 in
          omega arith,
    )

-- ---- taking a number out

-- what is left is another number that was there
pub left_is : (rest less : NumberSet) (k n : ℕ) → k < 64 → n < 64
    → ((m : ℕ) → m < 64 → has less m ≡ (has rest m && not (m == k % 64)))
    → has less n ≡ true → (has rest n ≡ true) × (n ≢ k)
left_is rest less k n small within out is =
    let both = and_parts (has rest n) (not (n == k % 64)) (sym (out n within) ∙ is) in
    (both.0, λ same. eqb-false n (k % 64) (not-true _ both.1) (omega arith))

-- what is not left was not there, or is the number
pub gone_is : (rest less : NumberSet) (k n : ℕ) → k < 64 → n < 64
    → ((m : ℕ) → m < 64 → has less m ≡ (has rest m && not (m == k % 64)))
    → has less n ≡ false → (n ≡ k) ⊎ ((n ≢ k) × (has rest n ≡ false))
gone_is rest less k n small within out is =
    elim (cases_eq n k) [
      | inl same ↦ inl same
      | inr other ↦
          elim (and_cases (has rest n) (not (n == k % 64)) (sym (out n within) ∙ is)) [
            | inl none ↦ inr (other, none)
            | inr same ↦ inl (let e = eqb-true n (k % 64) (not-false _ same) in omega arith)
          ]
    ]
