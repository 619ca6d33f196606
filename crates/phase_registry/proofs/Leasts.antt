-- The least number of a list, as a fold from the front.
use Rattle.std.proofs.Common.{◌≡◌, ℕ, Bool, true, false, cond, List, [], ◌∷◌, Option, Some, None, min, map, refl, ap, ◌∙◌, arith}
use Rattle.std.specs.List.{fold, filter}
use Rattle.phase_base.specs.declared.entry.Entry.{Entry}
use Rattle.phase_base.specs.declared.member.Member.{Member}
use Rattle.phase_base.specs.Members.{Members, least, lesser}

-- the fold from a number
least_from : (xs : List ℕ) (n : ℕ)
    → fold (λ o x. Some (lesser x o)) (Some n) xs ≡ Some (lesser n (least xs))
least_from [] n = refl
least_from (x ∷ xs) n =
    let same : lesser (min x n) (least xs) ≡ min n (lesser x (least xs)) =
    elim (least xs) as (λ o. lesser (min x n) o ≡ min n (lesser x o)) [
      | None ↦ omega arith
      | Some m ↦ omega arith
    ] in
    least_from xs (min x n) ∙ ap (λ k. Some k) same

-- the fold over the whole list
fold_least : (xs : List ℕ) → fold (λ o x. Some (lesser x o)) None xs ≡ least xs
fold_least [] = refl
fold_least (x ∷ xs) = least_from xs x

-- the least phase so far and one member's phase, where it counts
abbrev pub lower : (Entry → Bool) → (Entry → ℕ) → Option ℕ → Member → Option ℕ
lower test value so_far m =
    cond (test m.entry) (Some (lesser (value m.entry) so_far)) so_far

-- the fold over the members goes by the phases that count
fold_picked : (test : Entry → Bool) (value : Entry → ℕ) (ms : Members) (z : Option ℕ)
    → fold (lower test value) z ms
    ≡ fold (λ o x. Some (lesser x o)) z
    (map (λ (m : Member). value m.entry) (filter (λ (m : Member). test m.entry) ms))
fold_picked test value [] z = refl
fold_picked test value (m ∷ ms) z =
    let phases = map (λ (x : Member). value x.entry) (filter (λ (x : Member). test x.entry) ms) in
    let rest : (o : Option ℕ) → fold (lower test value) o ms ≡ fold (λ o x. Some (lesser x o)) o phases =
    λ o. fold_picked test value ms o in
    elim (test m.entry) as (λ b. fold (lower test value) (cond b (Some (lesser (value m.entry) z)) z) ms
    ≡ fold (λ o x. Some (lesser x o)) z (map (λ (x : Member). value x.entry)
    (cond b (m ∷ filter (λ (x : Member). test x.entry) ms)
    (filter (λ (x : Member). test x.entry) ms)))) [
      | true ↦ rest (Some (lesser (value m.entry) z))
      | false ↦ rest z
    ]

-- the least phase of those that count, as a fold over the members
pub least-folded : (test : Entry → Bool) (value : Entry → ℕ) (ms : Members)
    → fold (lower test value) None ms
    ≡ least (map (λ (m : Member). value m.entry) (filter (λ (m : Member). test m.entry) ms))
least-folded test value ms = fold_picked test value ms None ∙ fold_least _
