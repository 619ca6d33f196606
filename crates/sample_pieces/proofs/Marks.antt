-- A byte order mark in front of a text that comes byte by byte.
use Rattle.std.proofs.Common.{◌≡◌, ℕ, ◌≤◌, ◌<◌, ◌==◌, Bool, true, false, List, [], ◌∷◌, ◌++◌, length, refl, sym, ap, ◌∙◌, append_assoc, arith, ne_eqb, eqb-true}
use Rattle.csv.specs.Reading.{strip_bom, is_bom}
use Rattle.sample_pieces.specs.Pieces.{IsMarked}

pub short_text : (text : List ℕ) → length text ≤ 2 → strip_bom text ≡ text
unfolding strip_bom
short_text [] few = refl
short_text (a ∷ []) few = refl
short_text (a ∷ b ∷ []) few = refl
short_text (a ∷ b ∷ c ∷ text) few = absurd (omega arith)

-- three bytes that are no mark stay in front
pub no_mark : (a b c : ℕ) (more : List ℕ) → is_bom a b c ≡ false
    → strip_bom (a ∷ b ∷ c ∷ more) ≡ a ∷ b ∷ c ∷ more
unfolding strip_bom
no_mark a b c more e = rw e refl

pub three_marked : (a b c : ℕ) → is_bom a b c ≡ false → IsMarked (a ∷ b ∷ c ∷ [])
three_marked a b c e = λ more. no_mark a b c more e
    ∙ ap (λ text. text ++ more) (sym (no_mark a b c [] e))

-- a byte of no mark
first_other : (a b c : ℕ) → a < 128 → is_bom a b c ≡ false
first_other a b c few =
    let other : (a == 239) ≡ false = ne_eqb a 239 (λ e. omega (arith, e, few)) in rw other refl

second_other : (a b c : ℕ) → b < 128 → is_bom a b c ≡ false
second_other a b c few = by (a == 239) refl
  where
    by : (t : Bool) → (a == 239) ≡ t → is_bom a b c ≡ false
    by true e =
        let other : (b == 187) ≡ false = ne_eqb b 187 (λ is. omega (arith, is, few)) in
        rw (e, other) refl
    by false e = rw e refl

pub third_other : (a b c : ℕ) → (c == 191) ≡ false → is_bom a b c ≡ false
third_other a b c other = by (a == 239) (b == 187) refl refl
  where
    by : (t u : Bool) → (a == 239) ≡ t → (b == 187) ≡ u → is_bom a b c ≡ false
    by true true e f = rw (e, f, other) refl
    by true false e f = rw (e, f) refl
    by false u e f = rw e refl

-- behind a byte of no mark it is known that there is none
pub sign_marked : (text : List ℕ) (c : ℕ) → length text ≤ 2 → c < 128 → IsMarked (text ++ c ∷ [])
unfolding strip_bom
sign_marked [] c few sign = by
  where
    by : (more : List ℕ) → strip_bom (c ∷ more) ≡ strip_bom (c ∷ []) ++ more
    by [] = refl
    by (x ∷ []) = refl
    by (x ∷ y ∷ more) = no_mark c x y more (first_other c x y sign)
sign_marked (a ∷ []) c few sign = by
  where
    by : (more : List ℕ) → strip_bom (a ∷ c ∷ more) ≡ strip_bom (a ∷ c ∷ []) ++ more
    by [] = refl
    by (x ∷ more) = no_mark a c x more (second_other a c x sign)
sign_marked (a ∷ b ∷ []) c few sign =
    three_marked a b c (third_other a b c (ne_eqb c 191 (λ e. omega (arith, e, sign))))
sign_marked (a ∷ b ∷ d ∷ text) c few sign = absurd (omega arith)

-- once it is known it stays so
pub stays_marked : (text : List ℕ) (c : ℕ) → IsMarked text → IsMarked (text ++ c ∷ [])
stays_marked text c marked = λ more.
    ap strip_bom (append_assoc text (c ∷ []) more) ∙ marked (c ∷ more)
    ∙ sym (append_assoc (strip_bom text) (c ∷ []) more)
    ∙ ap (λ front. front ++ more) (sym (marked (c ∷ [])))

-- the bytes of the mark itself
pub mark_alone : (more : List ℕ) → strip_bom (239 ∷ 187 ∷ 191 ∷ more) ≡ more
unfolding strip_bom
mark_alone more = refl

pub mark_marked : IsMarked (239 ∷ 187 ∷ 191 ∷ [])
mark_marked = λ more. mark_alone more ∙ ap (λ text. text ++ more) (sym (mark_alone []))

-- three bytes that are not those of the mark
not_mark : (a b c : ℕ) → (a ∷ b ∷ [] ≡ 239 ∷ 187 ∷ [] → c ≡ 191 → ⊥) → is_bom a b c ≡ false
not_mark a b c other = by (a == 239) (b == 187) (c == 191) refl refl refl
  where
    by : (t u v : Bool) → (a == 239) ≡ t → (b == 187) ≡ u → (c == 191) ≡ v
        → is_bom a b c ≡ false
    by true true true e f g =
        absurd (other (rw (eqb-true a 239 e, eqb-true b 187 f) refl) (eqb-true c 191 g))
    by true true false e f g = rw (e, f, g) refl
    by true false v e f g = rw (e, f) refl
    by false u v e f g = rw e refl

-- a byte more of a text that may still begin with the mark
pub first_plain : (text : List ℕ) (c : ℕ) → length text ≤ 2
    → (text ≡ 239 ∷ 187 ∷ [] → c ≡ 191 → ⊥)
    → strip_bom (text ++ c ∷ []) ≡ strip_bom text ++ c ∷ []
unfolding strip_bom
first_plain [] c few other = refl
first_plain (a ∷ []) c few other = refl
first_plain (a ∷ b ∷ []) c few other = no_mark a b c [] (not_mark a b c other)
first_plain (a ∷ b ∷ d ∷ text) c few other = absurd (omega arith)

pub third_marked : (text : List ℕ) (c : ℕ) → length text ≡ 2
    → (text ≡ 239 ∷ 187 ∷ [] → c ≡ 191 → ⊥) → IsMarked (text ++ c ∷ [])
third_marked [] c two other = absurd (omega (arith, two))
third_marked (a ∷ []) c two other = absurd (omega (arith, two))
third_marked (a ∷ b ∷ []) c two other = three_marked a b c (not_mark a b c other)
third_marked (a ∷ b ∷ d ∷ text) c two other = absurd (omega (arith, two))
