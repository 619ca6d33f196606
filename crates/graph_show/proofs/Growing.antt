-- Texts of items one behind the other, which grow by one.
use Rattle.std.proofs.Common.{◌≡◌, ℕ, zero, suc, ◌+◌, ◌<◌, List, [], ◌∷◌, ◌++◌, length, take, get_or, sym, ap, ◌∙◌, arith, zero-add, append_assoc}
use Rattle.std.specs.List.{flat_map, range_with_len}
use Rattle.std.proofs.lemmas.List.{take_more}
use Rattle.watched_io.proofs.Items.{flat_map-push}

range-more : (a n : ℕ) → range_with_len a (n + 1) ≡ range_with_len a n ++ (a + n) ∷ []
range-more a zero = let same : a + 0 ≡ a = omega arith in ap (λ k. k ∷ []) (sym same)
range-more a (suc n) =
    let longer : suc n + 1 ≡ suc (n + 1) = omega arith in
    let last : a + 1 + n ≡ a + suc n = omega arith in
    ap (range_with_len a) longer
    ∙ ap (λ xs. a ∷ xs) (range-more (a + 1) n ∙ ap (λ k. range_with_len (a + 1) n ++ k ∷ []) last)

-- the item of number n behind those below
pub numbered-more : (f : ℕ → List ℕ) (front old new : List ℕ) (n : ℕ)
    → old ≡ front ++ flat_map f (range_with_len 0 n) → new ≡ old ++ f n
    → new ≡ front ++ flat_map f (range_with_len 0 (n + 1))
numbered-more f front old new n is more =
    let last = range-more 0 n ∙ ap (λ k. range_with_len 0 n ++ k ∷ []) (zero-add n) in
    more ∙ (ap (λ xs. xs ++ f n) is
    ∙ sym (ap (λ ns. front ++ flat_map f ns) last ∙ flat_map-push f front (range_with_len 0 n) n))

-- the next number of a list behind those before it
pub listed-more : (f : ℕ → List ℕ) (front old new ns : List ℕ) (i : ℕ)
    → i < length ns → old ≡ front ++ flat_map f (take i ns) → new ≡ old ++ f (get_or ns i 0)
    → new ≡ front ++ flat_map f (take (i + 1) ns)
listed-more f front old new ns i within is more =
    more ∙ (ap (λ xs. xs ++ f (get_or ns i 0)) is
    ∙ sym (ap (λ xs. front ++ flat_map f xs) (take_more ns i 0 within)
    ∙ flat_map-push f front (take i ns) (get_or ns i 0)))

-- ---- one text behind another

-- the second behind the first
pub behind : (front mid new xs ys : List ℕ) → mid ≡ front ++ xs → new ≡ mid ++ ys
    → new ≡ front ++ (xs ++ ys)
behind front mid new xs ys first second =
    second ∙ (ap (λ zs. zs ++ ys) first ∙ append_assoc front xs ys)
