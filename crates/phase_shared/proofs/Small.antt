-- Small facts of numbers, lists and what was used.
use Rattle.std.proofs.Common.{◌≡◌, ℕ, zero, suc, ◌+◌, ◌<◌, Bool, true, false, not, eqb, List, [], ◌∷◌, ◌++◌, ◌⊎◌, Some, None, length, refl, sym, ap, inl, inr, arith}
use Rattle.std.specs.Prelude.{◌||◌}
use Rattle.std.proofs.lemmas.Bool.{eq-eqb, eqb-true, and_parts, and_from, not-true, not_from_false}
use Rattle.std.proofs.Math.Bool.{or-true}
use mathlib.Core.Option.{some, some-injective, some-ne-none}
use lib.ListN.{get_elem?}
use Rattle.phase_shared.specs.Phasers.{History, IsUsed, is_distinct, is_in}

pub none_some : {A : Type 0} (x : A) → Some x ≡ None → ⊥
none_some x e = cc

pub eqb_refl : (a : ℕ) → eqb a a ≡ true
eqb_refl a = eq-eqb a a refl

pub or_false : (b : Bool) → (b || false) ≡ false → b ≡ false
or_false true e = absurd (cc)
or_false false e = refl

pub snoc_at : {A : Type 0} (l : List A) (a b : A) (j : ℕ) → get_elem? (l ++ a ∷ []) j ≡ some b → (get_elem? l j ≡ some b) ⊎ ((j ≡ length l) × (a ≡ b))
snoc_at [] a b zero e = inr (refl, some-injective a b e)
snoc_at [] a b (suc j) e = absurd (some-ne-none b (sym e))
snoc_at (x ∷ l) a b zero e = inl e
snoc_at (x ∷ l) a b (suc j) e = elim (snoc_at l a b j e) [ inl p ↦ inl p | inr p ↦ inr (ap suc p.0, p.1) ]

pub one_of : (a t : ℕ) → is_in t (a ∷ []) ≡ true → a ≡ t
one_of a t has = elim (eqb a t) as (λ b. (eqb a t ≡ b) → (b || false) ≡ true → a ≡ t) [
  | true ↦ λ e h. eqb-true a t e
  | false ↦ λ e h. absurd (cc)
] refl has

pub is_in_self : (a : ℕ) (xs : List ℕ) → is_in a (a ∷ xs) ≡ true
is_in_self a xs = rw (eqb_refl a) refl

pub in_second : (a b : ℕ) → is_in b (a ∷ b ∷ []) ≡ true
in_second a b = elim (eqb a b) as (λ c. (c || ((eqb b b) || false)) ≡ true) [
  | true ↦ refl
  | false ↦ rw (eqb_refl b) refl
]

pub distinct_append : (xs ys : List ℕ) → is_distinct xs ≡ true → is_distinct ys ≡ true → ((t : ℕ) → is_in t xs ≡ true → is_in t ys ≡ false) → is_distinct (xs ++ ys) ≡ true
distinct_append [] ys dx dy apart = dy
distinct_append (x ∷ xs) ys dx dy apart =
    let p = and_parts (not (is_in x xs)) (is_distinct xs) dx in
    let out : is_in x (xs ++ ys) ≡ false = not_in x xs ys (not-true (is_in x xs) p.0) (apart x (is_in_self x xs)) in
    and_from (not (is_in x (xs ++ ys))) (is_distinct (xs ++ ys)) (not_from_false (is_in x (xs ++ ys)) out)
    (distinct_append xs ys p.1 dy (λ t has. apart t (further t x xs has)))
  where
    not_in : (t : ℕ) (xs ys : List ℕ) → is_in t xs ≡ false → is_in t ys ≡ false → is_in t (xs ++ ys) ≡ false
    not_in t [] ys a b = b
    not_in t (x ∷ xs) ys a b = elim (eqb x t) as (λ c. (c || is_in t xs) ≡ false → (c || is_in t (xs ++ ys)) ≡ false) [
      | true ↦ λ h. h
      | false ↦ λ h. not_in t xs ys h b
    ] a

    further : (t x : ℕ) (xs : List ℕ) → is_in t xs ≡ true → is_in t (x ∷ xs) ≡ true
    further t x xs has = elim (eqb x t) as (λ c. (c || is_in t xs) ≡ true) [
      | true ↦ refl
      | false ↦ has
    ]

pub in_append : (xs ys : List ℕ) (t : ℕ) → is_in t (xs ++ ys) ≡ true → (is_in t xs ≡ true) ⊎ (is_in t ys ≡ true)
in_append [] ys t has = inr has
in_append (x ∷ xs) ys t has = elim (eqb x t) as (λ c. (c || is_in t (xs ++ ys)) ≡ true → ((c || is_in t xs) ≡ true) ⊎ (is_in t ys ≡ true)) [
  | true ↦ λ h. inl refl
  | false ↦ λ h. in_append xs ys t h
] has

-- where a number was used, something has happened
pub used_some : (h : History) (task : ℕ) → IsUsed h task → h ≡ [] → ⊥
used_some h task used none = let never : IsUsed [] task = rw none at used in cc

-- a history that begins with some event has one
pub longer_some : (later h : History) → (h ≡ [] → ⊥) → later ++ h ≡ [] → ⊥
longer_some [] h begun none = begun none
longer_some (e ∷ later) h begun none = cc

pub none_below : (n : ℕ) → n < 0 → ⊥
none_below n low = omega arith

-- a phase is not the next one
pub apart_phases : (n : ℕ) → n + 1 ≡ n → ⊥
apart_phases n e = omega arith

pub in_left : (xs ys : List ℕ) (t : ℕ) → is_in t xs ≡ true → is_in t (xs ++ ys) ≡ true
in_left [] ys t has = absurd (cc)
in_left (x ∷ xs) ys t has = elim (eqb x t) as (λ b. (b || is_in t xs) ≡ true → (b || is_in t (xs ++ ys)) ≡ true) [
  | true ↦ λ h. refl
  | false ↦ λ h. in_left xs ys t h
] has

pub in_right : (xs ys : List ℕ) (t : ℕ) → is_in t ys ≡ true → is_in t (xs ++ ys) ≡ true
in_right [] ys t has = has
in_right (x ∷ xs) ys t has = rw (in_right xs ys t has) (or-true (eqb x t))
