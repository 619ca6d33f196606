-- A fact of each element of a list, by recursion over the list; the least of a list of numbers.
use Rattle.std.proofs.Common.{◌≡◌, ℕ, ◌≤◌, Bool, true, false, cond, List, [], ◌∷◌, ◌++◌, Some, None, map, unwrap_or, refl, arith}
use Rattle.std.specs.List.{filter}
use Rattle.std.proofs.lemmas.Option.{same_Some}
use Rattle.phase_base.specs.Members.{least, lesser}

-- P of each element
abbrev pub Each : {X : Type 0} → (X → Type 0) → List X → Type 0
Each P [] = Unit {0}
Each P (x ∷ xs) = P x × Each P xs

-- each has what follows from what each has
pub Each-from : {X : Type 0} (P Q : X → Type 0) → ((x : X) → P x → Q x) → (xs : List X) → Each P xs → Each Q xs
Each-from P Q follows [] each = tt
Each-from P Q follows (x ∷ xs) each = (follows x each.0, Each-from P Q follows xs each.1)

pub Each-push : {X : Type 0} (P : X → Type 0) (xs : List X) (y : X) → Each P xs → P y → Each P (xs ++ y ∷ [])
Each-push P [] y each last = (last, tt)
Each-push P (x ∷ xs) y each last = (each.0, Each-push P xs y each.1 last)

pub Each-filter : {X : Type 0} (P : X → Type 0) (test : X → Bool) (xs : List X) → Each P xs → Each P (filter test xs)
Each-filter P test [] each = tt
Each-filter P test (x ∷ xs) each =
    let rest : Each P (filter test xs) = Each-filter P test xs each.1 in
    elim (test x) as (λ b. Each P (cond b (x ∷ filter test xs) (filter test xs))) [
      | true ↦ (each.0, rest)
      | false ↦ rest
    ]

-- of what each element that passes gives
pub Each-picked : {X Y : Type 0} (P : Y → Type 0) (f : X → Y) (test : X → Bool) (xs : List X)
    → Each (λ x. test x ≡ true → P (f x)) xs → Each P (map f (filter test xs))
Each-picked P f test [] each = tt
Each-picked P f test (x ∷ xs) each =
    let rest : Each P (map f (filter test xs)) = Each-picked P f test xs each.1 in
    elim (test x) as (λ b. (test x ≡ b) → Each P (map f (cond b (x ∷ filter test xs) (filter test xs)))) [
      | true ↦ λ e. (each.0 e, rest)
      | false ↦ λ e. rest
    ] refl

-- and back
pub Each-of_picked : {X Y : Type 0} (P : Y → Type 0) (f : X → Y) (test : X → Bool) (xs : List X)
    → Each P (map f (filter test xs)) → Each (λ x. test x ≡ true → P (f x)) xs
Each-of_picked P f test [] each = tt
Each-of_picked P f test (x ∷ xs) each =
    elim (test x) as (λ b. (test x ≡ b) → Each P (map f (cond b (x ∷ filter test xs) (filter test xs)))
    → (test x ≡ true → P (f x)) × Each (λ x. test x ≡ true → P (f x)) xs) [
      | true ↦ λ e h. (λ _. h.0, Each-of_picked P f test xs h.1)
      | false ↦ λ e h. (λ t. absurd (let no : true ≡ false = (cc) in cc), Each-of_picked P f test xs h)
    ]
    refl each

-- ---- the least of a list

-- no number of a list is below the list's least
pub least_low : (xs : List ℕ) (b : ℕ) → least xs ≡ Some b → Each (λ x. b ≤ x) xs
least_low [] b e = tt
least_low (x ∷ xs) b e =
    let is : lesser x (least xs) ≡ b = same_Some _ _ e in
    elim (least xs) as (λ o. (least xs ≡ o) → (lesser x o ≡ b) → (b ≤ x) × Each (λ x. b ≤ x) xs) [
      | None ↦ λ none w. (omega arith, nothing xs b none)
      | Some m ↦ λ some w. (omega arith, Each-from (λ x. m ≤ x) (λ x. b ≤ x) (λ y h. omega arith) xs (least_low xs m some))
    ]
    refl is
  where
    nothing : (xs : List ℕ) (b : ℕ) → least xs ≡ None → Each (λ x. b ≤ x) xs
    nothing [] b e = tt
    nothing (x ∷ xs) b e = absurd (cc)

-- the least, or a number where there is none, is no more than each number of the list
pub least_or_low : (xs : List ℕ) (t : ℕ) → Each (λ x. unwrap_or (least xs) t ≤ x) xs
least_or_low [] t = tt
least_or_low (x ∷ xs) t = least_low (x ∷ xs) (lesser x (least xs)) refl

-- what is no more than each number, and than t, is no more than the least, or t
pub least_or_high : (xs : List ℕ) (t b : ℕ) → Each (λ x. b ≤ x) xs → b ≤ t → b ≤ unwrap_or (least xs) t
least_or_high [] t b each h = h
least_or_high (x ∷ xs) t b each h =
    let rest : b ≤ unwrap_or (least xs) x = least_or_high xs x b each.1 each.0 in
    elim (least xs) as (λ o. b ≤ unwrap_or o x → b ≤ lesser x o) [
      | None ↦ λ r. each.0
      | Some m ↦ λ r. let here : b ≤ x = each.0 in omega arith
    ] rest

-- where no number is above t, neither is the least
pub least_or_top : (xs : List ℕ) (t : ℕ) → Each (λ x. x ≤ t) xs → unwrap_or (least xs) t ≤ t
least_or_top [] t each = omega arith
least_or_top (x ∷ xs) t each =
    let low : Each (λ y. lesser x (least xs) ≤ y) (x ∷ xs) = least_or_low (x ∷ xs) t in
    omega (arith, low.0, each.0)
