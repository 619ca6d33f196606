-- Lists of samples that are all empty.
use Rattle.std.proofs.Common.{◌≡◌, ℕ, ℤ, zero, suc, ◌<◌, List, [], ◌∷◌, length, get_or, map, refl, sym, ap, ◌∙◌}
use Rattle.std.specs.Global.{Global}
use Rattle.std.specs.List.{range_with_len}
use Rattle.std.specs.declared.vec.Vec.{Vec}
use Rattle.std.proofs.lemmas.List.{get_or-map, length-map}
use Rattle.std.proofs.lemmas.List.FromFn.{length-map-range_with_len}
use Rattle.stream_lists.specs.JobFields.{items_of}

abbrev bare : ℕ → List ℤ
bare k = []

pub bare-length : (n : ℕ) → length (map {B = List ℤ} (λ k. []) (range_with_len 0 n)) ≡ n
bare-length n = length-map-range_with_len bare 0 n

-- each of them is empty
pub all_bare : (ks : List ℕ) (n : ℕ) → get_or (map {B = List ℤ} (λ k. []) ks) n [] ≡ []
all_bare [] n = refl
all_bare (k ∷ ks) zero = refl
all_bare (k ∷ ks) (suc n) = all_bare ks n

-- the same, as vectors keep them
pub bare_items : (lists : List (Vec ℤ Global)) (n : ℕ)
    → items_of lists ≡ map (λ k. []) (range_with_len 0 n) → length lists ≡ n
bare_items lists n same =
    sym (length-map lists (λ list. list.items)) ∙ ap length same ∙ bare-length n

pub bare_item : (lists : List (Vec ℤ Global)) (n k : ℕ) (d : Vec ℤ Global)
    → items_of lists ≡ map (λ k. []) (range_with_len 0 n) → k < length lists
    → (get_or lists k d).items ≡ []
bare_item lists n k d same lt =
    sym (get_or-map (λ (list : Vec ℤ Global). list.items) lists k d [] lt)
    ∙ ap (λ l. get_or l k []) same ∙ all_bare (range_with_len 0 n) k
