-- How many values come before the first that is too big, in two lists one behind the other.
use Rattle.std.proofs.Common.{◌≡◌, ◌+◌, ◌<◌, ◌≤◌, List, ◌++◌, length, sym, ap, cond, ◌∙◌, arith}
use Rattle.std.specs.List.{prefix_len, take_while}
use Rattle.std.proofs.lemmas.List.Folds.{length-prefix_len, prefix_len-append}
use Rattle.std.proofs.lemmas.Bool.{eq-eqb, ne_eqb}
use Rattle.std.proofs.lemmas.List.Sums.{prefix_len-le-length}
use Rattle.phase_accum.specs.declared.outcome.Outcome.{Outcome}
use Rattle.phase_ring.specs.Blocks.{is_not_too_big}

-- the values before the first that is too big are no more than all
pub good-few : (xs : List Outcome) → length (take_while is_not_too_big xs) ≤ length xs
good-few xs =
    omega (arith, length-prefix_len is_not_too_big xs, prefix_len-le-length is_not_too_big xs)

-- where some of the first is too big, no more count
pub good_in_first : (xs ys : List Outcome) → length (take_while is_not_too_big xs) < length xs
    → length (take_while is_not_too_big (xs ++ ys)) ≡ length (take_while is_not_too_big xs)
good_in_first xs ys less =
    let n = prefix_len is_not_too_big xs in
    let is = length-prefix_len is_not_too_big xs in
    length-prefix_len is_not_too_big (xs ++ ys) ∙ prefix_len-append is_not_too_big xs ys
    ∙ ap (λ b. cond b (length xs + prefix_len is_not_too_big ys) n)
    (ne_eqb n (length xs) (λ same. omega arith)) ∙ sym is

-- and else those of the second behind them
pub good_in_second : (xs ys : List Outcome) → length (take_while is_not_too_big xs) ≡ length xs
    → length (take_while is_not_too_big (xs ++ ys))
    ≡ length xs + length (take_while is_not_too_big ys)
good_in_second xs ys all =
    let n = prefix_len is_not_too_big xs in
    let is = length-prefix_len is_not_too_big xs in
    length-prefix_len is_not_too_big (xs ++ ys) ∙ prefix_len-append is_not_too_big xs ys
    ∙ ap (λ b. cond b (length xs + prefix_len is_not_too_big ys) n)
    (eq-eqb n (length xs) (sym is ∙ all))
    ∙ ap (λ k. length xs + k) (sym (length-prefix_len is_not_too_big ys))
