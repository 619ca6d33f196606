-- Digits, one more at a time.
use Rattle.std.proofs.Common.{ℕ, suc, zero, ◌≡◌, ◌≤◌, ◌<◌, ◌^◌, List, length, take, get_or, ap, sym, arith, subst, ℤ, ◌∙◌, Option, Some, None, IfSome, IfNone}
use Rattle.std.specs.Str.Parse.{AllDigits, digits_value}
use Rattle.std.specs.Fmt.{decimal, signed_decimal}
use Rattle.std.proofs.lemmas.Int.Digits.{digits_value-lt}
use Rattle.std.proofs.lemmas.List.{length-take-le}
use Rattle.std.proofs.lemmas.Str.Parse.{numerals_by_value, tells_digits}
use Rattle.std.proofs.lemmas.Fmt.{decimal-digits_value, decimal_is_IsNumeral, first_decimal, length-decimal-le, decimal_digit}
use Rattle.std.proofs.Math.Nat.{pow-le-pow_right}
use Rattle.phase_base.specs.Numbers.{int_within}
use Rattle.phase_accum.specs.Sends.{value_max, IsSend}
use Rattle.phase_base.proofs.Numbers.{int_found, int_only}

-- the number of at most 18 digits is below 10 ^ 18
pub few_digits : (bs : List ℕ) (i : ℕ) → i < length bs → i ≤ 18 → AllDigits 10 (take i bs) → digits_value 10 (take i bs) < 10 ^ 18
few_digits bs i h low digits =
    let below : digits_value 10 (take i bs) < 10 ^ i = subst (λ (n : ℕ). digits_value 10 (take i bs) < 10 ^ n) (length-take-le i bs (omega arith)) (digits_value-lt 10 (take i bs) digits) in
    let ten : zero < 10 = omega arith in
    let wide : 10 ^ i ≤ 10 ^ 18 = pow-le-pow_right ten low in
    omega arith

-- digits with no leading 0 spell their number
pub spells : (bs : List ℕ) → AllDigits 10 bs → 0 < length bs → (get_or bs 0 0 ≡ 48 → length bs ≡ 1) → digits_value 10 bs ≤ value_max → bs ≡ decimal (digits_value 10 bs)
spells bs digits some plain small = sym (decimal-digits_value (numerals_by_value (AllDigits 10) tells_digits) bs digits some plain (omega arith))

-- what the one form of a number looks like
pub record LooksDecimal (bs : List ℕ) (n : ℕ) : Type 0 where
  pub digits : AllDigits 10 bs
  pub value : digits_value 10 bs ≡ n
  pub some : 0 < length bs
  pub few : length bs ≤ 19
  pub plain : get_or bs 0 0 ≡ 48 → length bs ≡ 1

pub looks_decimal : (n : ℕ) → n ≤ value_max → LooksDecimal (decimal n) n
looks_decimal n small =
    let d = decimal_is_IsNumeral n (omega arith) in
    record { digits = d.0.1; value = d.1; some = d.0.0; few = length-decimal-le 19 n (omega arith) (omega arith) (omega arith); plain = plain n small }
  where
    plain : (n : ℕ) → n ≤ value_max → get_or (decimal n) 0 0 ≡ 48 → length (decimal n) ≡ 1
    plain zero small e = ap length (decimal_digit 0 (omega arith))
    plain (suc n) small e = absurd (omega (arith, first_decimal (suc n) (omega arith) (omega arith)))

-- ---- values, by their words

pub value_found : (word : List ℕ) (o : Option ℤ) → o ≡ int_within value_max word
    → IfSome o (λ v. (word ≡ signed_decimal v) × IsSend v)
value_found word None e = tt
value_found word (Some v) e =
    let is = int_found value_max word v (omega arith) (sym e) in
    (is.0, record { small = is.1 })

pub value_other : (word : List ℕ) (o : Option ℤ) → o ≡ int_within value_max word
    → IfNone o ((v : ℤ) → IsSend v → word ≡ signed_decimal v → ⊥)
value_other word None e = λ v send is.
    let read : None ≡ Some v =
    e ∙ ap (int_within value_max) is ∙ int_only value_max v (omega arith) send.small in
    absurd (cc)
value_other word (Some v) e = tt
