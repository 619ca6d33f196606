-- What the numbers below one tell, by one number more.
use Rattle.std.proofs.Common.{◌≡◌, ℕ, ◌+◌, List, [], ◌∷◌, ◌++◌, Option, Some, None, append-nil, ap, ◌∙◌, zero-add}
use Rattle.std.specs.List.{cons_option, filter_map, flat_map, range_with_len}
use Rattle.std.proofs.lemmas.List.Elements.{filter_map-append}
use Rattle.std.proofs.lemmas.Grind.{flat_map-append}
use Rattle.stream_lists.proofs.Firsts.{range_more}

range_next : (n : ℕ) → range_with_len 0 (n + 1) ≡ range_with_len 0 n ++ n ∷ []
range_next n = range_more 0 n ∙ ap (λ k. range_with_len 0 n ++ k ∷ []) (zero-add n)

pub flat_map_more : {X : Type 0} (f : ℕ → List X) (n : ℕ)
    → flat_map f (range_with_len 0 (n + 1)) ≡ flat_map f (range_with_len 0 n) ++ f n
flat_map_more f n =
    ap (flat_map f) (range_next n) ∙ flat_map-append f (range_with_len 0 n) (n ∷ [])
    ∙ ap (λ l. flat_map f (range_with_len 0 n) ++ l) (append-nil (f n))

filter_map_next : {X : Type 0} (f : ℕ → Option X) (n : ℕ) → filter_map f (range_with_len 0 (n + 1))
    ≡ filter_map f (range_with_len 0 n) ++ cons_option (f n) []
filter_map_next f n =
    ap (filter_map f) (range_next n) ∙ filter_map-append f (range_with_len 0 n) (n ∷ [])

pub filter_map_more : {X : Type 0} (f : ℕ → Option X) (n : ℕ) (x : X) → f n ≡ Some x
    → filter_map f (range_with_len 0 (n + 1)) ≡ filter_map f (range_with_len 0 n) ++ x ∷ []
filter_map_more f n x is =
    filter_map_next f n ∙ ap (λ o. filter_map f (range_with_len 0 n) ++ cons_option o []) is

pub filter_map_less : {X : Type 0} (f : ℕ → Option X) (n : ℕ) → f n ≡ None
    → filter_map f (range_with_len 0 (n + 1)) ≡ filter_map f (range_with_len 0 n)
filter_map_less f n is =
    filter_map_next f n ∙ ap (λ o. filter_map f (range_with_len 0 n) ++ cons_option o []) is
    ∙ append-nil (filter_map f (range_with_len 0 n))
