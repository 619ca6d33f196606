-- The names of phasers and tasks, one behind the other.
use Rattle.std.proofs.Common.{◌≡◌, ℕ, ◌+◌, ◌<◌, List, [], ◌∷◌, ◌++◌, length, take, get_or, sym, ap, ◌∙◌, arith}
use Rattle.std.specs.List.{flat_map, range_with_len}
use Rattle.std.proofs.lemmas.List.{flat_map_more, take_more}
use Rattle.stream_lists.proofs.Firsts.{range_more}

-- one more name with its line end
pub names-more : (line : ℕ → List ℕ) (before items numbers : List ℕ) (k : ℕ) → k < length numbers
    → items ≡ before ++ flat_map line (take k numbers)
    → items ++ line (get_or numbers k 0) ≡ before ++ flat_map line (take (k + 1) numbers)
names-more line before items numbers k within is =
    let n = get_or numbers k 0 in
    ap (λ l. l ++ line n) is
    ∙ flat_map_more line before (take k numbers) n
    ∙ ap (λ l. before ++ flat_map line l) (sym (take_more numbers k 0 within))

-- one more name of all
pub names-next : (line : ℕ → List ℕ) (before items : List ℕ) (n : ℕ)
    → items ≡ before ++ flat_map line (range_with_len 0 n)
    → items ++ line n ≡ before ++ flat_map line (range_with_len 0 (n + 1))
names-next line before items n is =
    let all = range_with_len 0 n in
    let more : range_with_len 0 (n + 1) ≡ all ++ n ∷ [] =
    range_more 0 n ∙ ap (λ k. all ++ k ∷ []) (omega arith) in
    ap (λ l. l ++ line n) is
    ∙ flat_map_more line before all n
    ∙ ap (λ l. before ++ flat_map line l) (sym more)
