-- How many digits a number has, and a number written into a buffer.
use Rattle.std.proofs.Common.{ℕ, suc, ◌≡◌, ◌≤◌, ◌<◌, ◌+◌, ◌*◌, ◌^◌, List, ◌++◌, length, take, drop, sym, ap, ◌∙◌, arith, decimal}
use Rattle.std.proofs.Math.Nat.{pow-le-pow_right}
use native.Mathlib.Nat.{pow-succ'}
use native.Mathlib.Decide.{dec_lt}
use Rattle.std.proofs.lemmas.Fmt.{decimal_is_IsNumeral, length-decimal-le}
use Rattle.std.proofs.lemmas.Int.Digits.{digits_value-lt}
use Rattle.std.proofs.lemmas.List.{length-take-le, take-append-drop, take-append-le, take_all}
use Rattle.std.proofs.Math.Seq.{take-append-add}

-- a number between two powers of ten has one digit more than the lower one's exponent
pub length-decimal : (n k : ℕ) → 10 ^ k ≤ n → n < 10 * 10 ^ k → n < 2 ^ 64 → k + 1 ≡ length (decimal n)
length-decimal n k low high small =
    let form = decimal_is_IsNumeral n small in
    let below = digits_value-lt 10 (decimal n) form.0.1 in
    let value = form.1 in
    let plus : k + 1 ≡ suc k = omega arith in
    let next : 10 ^ (k + 1) ≡ 10 * 10 ^ k = ap (λ (j : ℕ). 10 ^ j) plus ∙ pow-succ' 10 k in
    let most = length-decimal-le (k + 1) n (omega arith) (omega arith) small in
    elim (dec_lt k (length (decimal n))) [
      | yes more ↦ omega arith
      | no other ↦
          let ten : 0 < 10 = omega arith in
          let fewer : length (decimal n) ≤ k = omega arith in
          let power = pow-le-pow_right {n = 10} ten fewer in
          absurd (omega arith)
    ]

-- digits that were written from a place on stand behind what was there before it
pub written : (old new ds rest : List ℕ) (at : ℕ) → at ≤ length old → drop at new ≡ ds ++ rest
    → take at new ≡ take at old → take (at + length ds) new ≡ take at old ++ ds
written old new ds rest at within behind before =
    let whole : new ≡ take at old ++ (ds ++ rest) = sym (take-append-drop at new)
    ∙ (ap (λ (l : List ℕ). l ++ drop at new) before ∙ ap (λ (l : List ℕ). take at old ++ l) behind) in
    let front : length (take at old) ≡ at = length-take-le at old within in
    let all : List ℕ = take at old ++ (ds ++ rest) in
    rw whole (ap (λ (k : ℕ). take (k + length ds) all) (sym front)
    ∙ (take-append-add (take at old) (ds ++ rest) (length ds)
    ∙ ap (λ (l : List ℕ). take at old ++ l) (take-append-le (length ds) ds rest (omega arith)
    ∙ take_all (length ds) ds (omega arith))))
