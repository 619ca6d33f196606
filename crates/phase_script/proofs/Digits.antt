-- The numbers of a line: what is read is what std writes, and nothing else.
use Rattle.std.proofs.Common.{◌≡◌, ◌≢◌, ℕ, zero, suc, ◌<◌, ◌≤◌, true, not, ◌==◌, List, [], ◌∷◌, length, get_or, decimal, nat_abs, ℤ, pos, negsuc, Some, refl, arith}
use Rattle.std.proofs.lemmas.Bool.{and_parts, ne_eqb}
use Rattle.std.proofs.lemmas.Fmt.{digits_decimal, length-decimal-le}
use Rattle.std.proofs.lemmas.Str.Parse.{IsNumeralModel, numerals_by_value, tells_all_ascii_digits, not_in_digits}
use Rattle.std.specs.Fmt.{signed_decimal}
use Rattle.std.specs.List.{list_all}
use Rattle.std.specs.Str.{all_ascii_digits}
use Rattle.std.specs.Str.Parse.{digits_value}
use Rattle.phase_base.proofs.Numbers as numbers
use Rattle.phase_script.specs.Numbers.{most, nat_of, int_of}

-- a number that is read is the word's text, and within the limit
pub nat_found : (word : List ℕ) (n : ℕ) → nat_of word ≡ Some n → (word ≡ decimal n) × (n ≤ most)
nat_found word n e = numbers.nat_found most word n (omega arith) e

-- the text of a number within the limit is read as it
pub nat_only : (n : ℕ) → n ≤ most → nat_of (decimal n) ≡ Some n
nat_only n le = numbers.nat_only most n (omega arith) le

-- a signed number that is read is the word's text, and within the limit
pub int_found : (word : List ℕ) (v : ℤ) → int_of word ≡ Some v
    → (word ≡ signed_decimal v) × (nat_abs v ≤ most)
int_found word v e = numbers.int_found most word v (omega arith) e

-- the text of a signed number within the limit is read as it
pub int_only : (v : ℤ) → nat_abs v ≤ most → int_of (signed_decimal v) ≡ Some v
int_only v le = numbers.int_only most v (omega arith) le

-- how long a number's text can be, and what is not in it

own : IsNumeralModel (λ ds. all_ascii_digits ds ≡ true) (digits_value 10)
own = numerals_by_value _ tells_all_ascii_digits

pub decimal_short : (n : ℕ) → n ≤ most → length (decimal n) ≤ 19
decimal_short n le = length-decimal-le 19 n (omega arith) (omega arith) (omega arith)

pub signed_short : (v : ℤ) → nat_abs v ≤ most → length (signed_decimal v) ≤ 20
signed_short (pos n) le = omega (arith, decimal_short n le)
signed_short (negsuc n) le = omega (arith, decimal_short (suc n) le)

pub decimal_has_no_space : (n : ℕ) → n ≤ most → (i : ℕ) → i < length (decimal n)
    → get_or (decimal n) i 0 ≢ 32
decimal_has_no_space n le =
    not_in_digits own (decimal n) 32 (digits_decimal own n (omega arith)) (λ h. omega arith)

pub signed_has_no_space : (v : ℤ) → nat_abs v ≤ most → (i : ℕ) → i < length (signed_decimal v)
    → get_or (signed_decimal v) i 0 ≢ 32
signed_has_no_space (pos n) le i lt = decimal_has_no_space n le i lt
signed_has_no_space (negsuc n) le zero lt = omega arith
signed_has_no_space (negsuc n) le (suc i) lt = decimal_has_no_space (suc n) le i (omega arith)

digits_have_no_line_end : (bs : List ℕ) → all_ascii_digits bs ≡ true
    → list_all (λ b. not (b == 10)) bs ≡ true
digits_have_no_line_end [] digits = refl
digits_have_no_line_end (b ∷ bs) digits =
    let first = not_in_digits own (b ∷ bs) 10 digits (λ h. omega arith) 0 (omega arith) in
    rw (ne_eqb b 10 first) (digits_have_no_line_end bs (and_parts _ _ digits).1)

pub decimal_has_no_line_end : (n : ℕ) → n ≤ most → list_all (λ b. not (b == 10)) (decimal n) ≡ true
decimal_has_no_line_end n le =
    digits_have_no_line_end (decimal n) (digits_decimal own n (omega arith))
