-- Numbers in decimal: a word is read as a number just where std writes that number as the word.
use Rattle.std.proofs.Common.{◌≡◌, ℕ, zero, suc, ◌+◌, ◌^◌, ◌<◌, ◌≤◌, Bool, true, false, ◌==◌, if◌then◌else◌, List, [], ◌∷◌, length, get_or, take, drop, decimal, unsigned_abs, ℤ, pos, negsuc, Option, Some, None, option_and_then, option_map, refl, sym, ◌∙◌, ap, subst, arith, IfNone, IfSome}
use Rattle.std.proofs.lemmas.Bool.{and_parts, leb-true, le-leb, eqb-true, ne_eqb}
use Rattle.std.proofs.lemmas.Bool.Decides.{nat_tests}
use Rattle.std.proofs.lemmas.Option.{cond_some, option_and_then_some}
use Rattle.std.proofs.lemmas.Fmt.{decimal-digits_value, digits_decimal, digits_value-decimal, decimal_digit, decimal_nonempty, first_decimal}
use Rattle.std.proofs.lemmas.Str.Parse.{IsNumeralModel, IsDigitsTest, numerals_by_value, not_in_digits, digits_value-take-le}
use Rattle.std.specs.Fmt.{signed_decimal}
use Rattle.std.specs.List.{list_all}
use Rattle.std.specs.Str.Parse.{digits_value}
use Rattle.phase_base.specs.Words.{is_digit}
use Rattle.phase_base.specs.Numbers.{begins_plainly, is_nat, nat_within, negated, int_within}

-- ---- digits

-- a digit is one of ten bytes
pub digit_in : (b : ℕ) → is_digit b ≡ true → (48 ≤ b) × (b ≤ 57)
digit_in b h = grind (arith, nat_tests)

digit_is : (b : ℕ) → (48 ≤ b) × (b ≤ 57) → is_digit b ≡ true
digit_is b h = grind (arith, nat_tests)

digits_test : IsDigitsTest (λ ds. list_all is_digit ds ≡ true)
digits_test = record {
  empty = refl;
  parts = λ b bs h. let both = and_parts (is_digit b) (list_all is_digit bs) h in (digit_in b both.0, both.1);
  more = λ b bs h all. rw (digit_is b h) all;
}

own : IsNumeralModel (λ ds. list_all is_digit ds ≡ true) (digits_value 10)
own = numerals_by_value _ digits_test

-- ---- without a sign

plain_parts : (word : List ℕ) → begins_plainly word ≡ true
    → (0 < length word) × (get_or word 0 0 ≡ 48 → length word ≡ 1)
plain_parts word e = (grind (arith, nat_tests), λ zero_first. grind (arith, nat_tests))

plain_from : (word : List ℕ) → 0 < length word → (get_or word 0 0 ≡ 48 → length word ≡ 1)
    → begins_plainly word ≡ true
plain_from word some one = grind (arith, nat_tests)

plain_decimal : (n : ℕ) → n < 2 ^ 64 → begins_plainly (decimal n) ≡ true
plain_decimal zero small = rw (decimal_digit 0 (omega arith)) refl
plain_decimal (suc n) small =
    plain_from (decimal (suc n)) (decimal_nonempty (suc n) small)
    (λ z. absurd (omega (arith, first_decimal (suc n) (omega arith) small)))

-- a number that is read is the word's text, and within the limit
pub nat_found : (limit : ℕ) (word : List ℕ) (n : ℕ) → limit < 2 ^ 64 → nat_within limit word ≡ Some n
    → (word ≡ decimal n) × (n ≤ limit)
unfolding nat_within
nat_found limit word n wide e =
    let tests = cond_some _ _ _ e in
    let fits = and_parts _ _ tests.0 in
    let numeral = and_parts _ _ fits.0 in
    let plain = plain_parts word numeral.0 in
    let le : digits_value 10 word ≤ limit = leb-true _ _ fits.1 in
    let is = decimal-digits_value own word numeral.1 plain.0 plain.1 (omega arith) in
    (sym is ∙ ap decimal tests.1, subst (λ (m : ℕ). m ≤ limit) tests.1 le)

-- the text of a number within the limit is read as it
pub nat_only : (limit n : ℕ) → limit < 2 ^ 64 → n ≤ limit → nat_within limit (decimal n) ≡ Some n
unfolding nat_within
nat_only limit n wide le =
    let small : n < 2 ^ 64 = omega arith in
    rw (
      plain_decimal n small,
      digits_decimal own n small,
      digits_value-decimal own n small,
      le-leb n limit le,
    ) refl

-- what is no number within the limit, though it is a number, is past it
pub nat_past : (limit : ℕ) (word : List ℕ) (o : Option ℕ) → is_nat word ≡ true
    → o ≡ nat_within limit word → IfNone o (limit < digits_value 10 word)
unfolding nat_within
nat_past limit word None is e = grind (arith, nat_tests)
nat_past limit word (Some n) is e = tt

-- a number is read as what its digits write
pub nat_is : (limit : ℕ) (word : List ℕ) (o : Option ℕ) → o ≡ nat_within limit word
    → IfSome o (λ n. (n ≡ digits_value 10 word) × (n ≤ limit))
unfolding nat_within
nat_is limit word None e = tt
nat_is limit word (Some n) e =
    let tests = cond_some _ _ _ (sym e) in
    let le : digits_value 10 word ≤ limit = leb-true _ _ (and_parts _ _ tests.0).1 in
    (sym tests.1, subst (λ (m : ℕ). m ≤ limit) tests.1 le)

-- ---- perhaps with a minus

negated_some : (n : ℕ) (v : ℤ) → negated n ≡ Some v
    → (45 ∷ decimal n ≡ signed_decimal v) × (unsigned_abs v ≡ n)
negated_some zero v e = cc
negated_some (suc n) v e =
    let P : ℤ → Type 0 = λ z. (45 ∷ decimal (suc n) ≡ signed_decimal z) × (unsigned_abs z ≡ suc n) in
    let is : negsuc n ≡ v = cc in
    subst P is (refl, refl)

map_some : (o : Option ℕ) (v : ℤ) → option_map pos o ≡ Some v → (n : ℕ) × (o ≡ Some n) × (pos n ≡ v)
map_some None v e = cc
map_some (Some n) v e = (n, refl, cc)

int_found_at : (limit : ℕ) (t : Bool) (b : ℕ) (bs : List ℕ) (v : ℤ) → limit < 2 ^ 64 → (b == 45) ≡ t
    → (if t then option_and_then negated (nat_within limit bs)
    else option_map pos (nat_within limit (b ∷ bs))) ≡ Some v
    → (b ∷ bs ≡ signed_decimal v) × (unsigned_abs v ≤ limit)
int_found_at limit true b bs v wide test e =
    option_and_then_some negated (nat_within limit bs) v e (λ n is neg.
    let found = nat_found limit bs n wide is in
    let minus = negated_some n v neg in
    let first : b ≡ 45 = eqb-true b 45 test in
    (rw (first, found.0) minus.0, omega (arith, minus.1, found.1)))
int_found_at limit false b bs v wide test e =
    let plus = map_some (nat_within limit (b ∷ bs)) v e in
    let found = nat_found limit (b ∷ bs) plus.0 wide plus.1 in
    let P : ℤ → Type 0 = λ z. (b ∷ bs ≡ signed_decimal z) × (unsigned_abs z ≤ limit) in
    subst P plus.2 (found.0, found.1)

-- a number that is read is the word's text, and within the limit
pub int_found : (limit : ℕ) (word : List ℕ) (v : ℤ) → limit < 2 ^ 64 → int_within limit word ≡ Some v
    → (word ≡ signed_decimal v) × (unsigned_abs v ≤ limit)
unfolding int_within
int_found limit [] v wide e = cc
int_found limit (b ∷ bs) v wide e = int_found_at limit (b == 45) b bs v wide refl e

int_plain : (limit : ℕ) (word : List ℕ) → list_all is_digit word ≡ true → 0 < length word
    → int_within limit word ≡ option_map pos (nat_within limit word)
unfolding int_within
int_plain limit [] digits some = absurd (omega arith)
int_plain limit (b ∷ bs) digits some =
    rw (ne_eqb b 45 (not_in_digits own (b ∷ bs) 45 digits (λ h. omega arith) 0 some)) refl

-- the text of a number within the limit is read as it
pub int_only : (limit : ℕ) (v : ℤ) → limit < 2 ^ 64 → unsigned_abs v ≤ limit
    → int_within limit (signed_decimal v) ≡ Some v
unfolding int_within
int_only limit (pos n) wide le =
    let small : n < 2 ^ 64 = omega arith in
    int_plain limit (decimal n) (digits_decimal own n small) (decimal_nonempty n small)
    ∙ rw (nat_only limit n wide le) refl
int_only limit (negsuc n) wide le = rw (nat_only limit (suc n) wide le) refl

-- ---- while the digits are read

-- after a digit the others are left
pub digit_step : (word : List ℕ) (i : ℕ) → i < length word → is_digit (get_or word i 0) ≡ true
    → list_all is_digit (drop i word) ≡ list_all is_digit (drop (i + 1) word)
digit_step [] i lt e = absurd (omega arith)
digit_step (b ∷ bs) zero lt e = rw e refl
digit_step (b ∷ bs) (suc i) lt e =
    let shift : suc i + 1 ≡ suc (i + 1) = omega arith in
    rw shift (digit_step bs i (omega arith) e)

-- a number that begins too great is too great
pub too_great : (limit : ℕ) (word : List ℕ) (i : ℕ) → limit < digits_value 10 (take i word)
    → nat_within limit word ≡ None
unfolding nat_within
too_great limit word i h =
    let past : limit < digits_value 10 word = omega (arith, digits_value-take-le 10 word i (omega arith)) in
    grind (arith, nat_tests)
