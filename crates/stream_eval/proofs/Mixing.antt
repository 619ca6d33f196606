-- A peer over two lists.
use Rattle.std.proofs.Common.{◌≡◌, ℕ, ◌<◌, List, length, get_or, ℤ, pos, ◌*ℤ◌, ◌-ℤ◌, sym, ap, ◌∙◌, zero-add}
use Rattle.std.specs.Prelude.{Result}
use Rattle.std.proofs.lemmas.List.FromFn.{length-map-range_with_len, get_or-map-range_with_len}
use Rattle.stream_filters.specs.Range.{ranged}
use Rattle.stream_filters.specs.declared.fault.TooBigValue.{TooBigValue}
use Rattle.stream_lists.specs.Lists.{entry, mixed, mixed_at}

pub length-mixed : (mul : ℤ) (xs es : List ℤ) → length (mixed mul xs es) ≡ length xs
length-mixed mul xs es = length-map-range_with_len (mixed_at mul xs es) 0 (length xs)

-- the answer at entry n checks the next value
pub next_mixed : (mul : ℤ) (xs es : List ℤ) (n : ℕ) (x e : ℤ) (r : Result ℤ TooBigValue)
    → n < length xs → x ≡ entry xs n → e ≡ entry es n → r ≡ ranged ((mul *ℤ x) -ℤ e)
    → r ≡ ranged (get_or (mixed mul xs es) n (pos 0))
next_mixed mul xs es n x e r lt x_is e_is answer =
    answer
    ∙ (ap (λ v. ranged ((mul *ℤ v) -ℤ e)) x_is
    ∙ (ap (λ v. ranged ((mul *ℤ entry xs n) -ℤ v)) e_is
    ∙ ap ranged (sym (get_or-map-range_with_len (mixed_at mul xs es) 0 (length xs) n n (pos 0) lt
    (zero-add n)))))
