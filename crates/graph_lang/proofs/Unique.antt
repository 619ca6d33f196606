-- The records of a text are determined by it.
use Rattle.std.proofs.Common.{ℕ, suc, ◌≡◌, ◌<◌, ◌^◌, List, [], ◌∷◌, ◌++◌, length, map, refl, sym, ◌∙◌, arith, ap, Some, None, ℤ}
use lib.IntN.{pos, negsuc}
use lib.Signed.{mag}
use Rattle.std.specs.Fmt.{signed_decimal}
use Rattle.std.proofs.lemmas.Fmt.{signed_decimal_injective}
use Rattle.std.proofs.lemmas.Option.{same_Some}
use Rattle.csv.specs.Machine.{Read, next_record}
use Rattle.csv.specs.Reading.{AreRecords, Reached}
use Rattle.csv.specs.declared.parser.Config.{Config}
use Rattle.csv.specs.declared.parser.State.{State}
use Rattle.phase_accum.specs.Sends.{IsSend, AreSends}
use Rattle.graph_lang.specs.Samples.{row_of}

row_same : (a b : List ℕ) → a ∷ [] ≡ b ∷ [] → a ≡ b
row_same a b e = cc

pub small_mag : (v : ℤ) → IsSend v → mag v < 2 ^ 63
small_mag (pos n) a = let small = a.small in omega arith
small_mag (negsuc n) a = let small = a.small in omega arith

-- values with the same record are the same
pub row_of_injective : (v w : ℤ) → IsSend v → IsSend w → row_of v ≡ row_of w → v ≡ w
row_of_injective v w a b e =
    signed_decimal_injective v w (small_mag v a) (small_mag w b) (row_same (signed_decimal v) (signed_decimal w) e)

-- a text that has a record is not at its end
pub not_both : (cfg : Config) (s t : State) (xs ys : List ℕ) (p : Read) → s ≡ t → xs ≡ ys → next_record cfg t [] [] ys ≡ None
    → next_record cfg s [] [] xs ≡ Some p → ⊥
not_both cfg s t xs ys p same equal none some = absurd (cc)

pub values_same : (cfg : Config) (vs ws : List ℤ) (s : State) (xs : List ℕ) → AreSends vs → AreSends ws
    → AreRecords cfg s xs (map row_of vs) → AreRecords cfg s xs (map row_of ws) → vs ≡ ws
unfolding Reached
values_same cfg [] [] s xs a b p q = refl
values_same cfg [] (w ∷ ws) s xs a b p q = absurd (not_both cfg s p.0 xs p.1 q.2.0 p.2.0 p.2.1 p.3 q.2.1)
values_same cfg (v ∷ vs) [] s xs a b p q = absurd (not_both cfg s q.0 xs q.1 p.2.0 q.2.0 q.2.1 q.3 p.2.1)
values_same cfg (v ∷ vs) (w ∷ ws) s xs a b p q =
    let (s1, y1, (r1, next1, is1, more1), end1) = p in
    let (s2, y2, (r2, next2, is2, more2), end2) = q in
    let same : r1 ≡ r2 = same_Some r1 r2 (sym next1 ∙ next2) in
    let rows : row_of v ≡ row_of w = is1 ∙ ap (λ (r : Read). r.0) same ∙ sym is2 in
    let head = row_of_injective v w a.0 b.0 rows in
    let later : AreRecords cfg r1.1 r1.2 (map row_of ws) = rw same (s2, y2, more2, end2) in
    let tail = values_same cfg vs ws r1.1 r1.2 a.1 b.1 (s1, y1, more1, end1) later in
    rw (head, tail) refl

-- what follows good records of a text that is all records of values is of a value
pub next_of_value : (cfg : Config) (vs good : List ℤ) (row : List (List ℕ)) (s t : State) (xs ys : List ℕ) → AreSends vs
    → AreRecords cfg s xs (map row_of vs) → Reached cfg s xs (map row_of good ++ row ∷ []) t ys → (v : ℤ) × IsSend v × (row ≡ row_of v)
unfolding Reached
next_of_value cfg [] [] row s t xs ys a p q = absurd (not_both cfg s p.0 xs p.1 q.0 p.2.0 p.2.1 p.3 q.1)
next_of_value cfg [] (g ∷ good) row s t xs ys a p q = absurd (not_both cfg s p.0 xs p.1 q.0 p.2.0 p.2.1 p.3 q.1)
next_of_value cfg (v ∷ vs) [] row s t xs ys a p q =
    let (s1, y1, (r1, next1, is1, more1), end1) = p in
    let same : r1 ≡ q.0 = same_Some r1 q.0 (sym next1 ∙ q.1) in
    (v, a.0, q.2 ∙ ap (λ (r : Read). r.0) (sym same) ∙ sym is1)
next_of_value cfg (v ∷ vs) (g ∷ good) row s t xs ys a p q =
    let (s1, y1, (r1, next1, is1, more1), end1) = p in
    let (r2, next2, is2, more2) = q in
    let same : r1 ≡ r2 = same_Some r1 r2 (sym next1 ∙ next2) in
    next_of_value cfg vs good row r1.1 t r1.2 ys a.1 (s1, y1, more1, end1) (rw same more2)

-- the first records of a text that are of no value stand behind as many good ones
pub good_same : (cfg : Config) (good fine : List ℤ) (row other : List (List ℕ)) (s t u : State) (xs ys zs : List ℕ) → AreSends good → AreSends fine
    → ((v : ℤ) → IsSend v → row ≡ row_of v → ⊥) → ((v : ℤ) → IsSend v → other ≡ row_of v → ⊥)
    → Reached cfg s xs (map row_of good ++ row ∷ []) t ys → Reached cfg s xs (map row_of fine ++ other ∷ []) u zs → length good ≡ length fine
unfolding Reached
good_same cfg [] [] row other s t u xs ys zs a b bad worse p q = refl
good_same cfg [] (w ∷ fine) row other s t u xs ys zs a b bad worse p q =
    let same : p.0 ≡ q.0 = same_Some p.0 q.0 (sym p.1 ∙ q.1) in
    absurd (bad w b.0 (p.2 ∙ ap (λ (r : Read). r.0) same ∙ sym q.2))
good_same cfg (v ∷ good) [] row other s t u xs ys zs a b bad worse p q =
    let same : p.0 ≡ q.0 = same_Some p.0 q.0 (sym p.1 ∙ q.1) in
    absurd (worse v a.0 (q.2 ∙ ap (λ (r : Read). r.0) (sym same) ∙ sym p.2))
good_same cfg (v ∷ good) (w ∷ fine) row other s t u xs ys zs a b bad worse p q =
    let (r1, next1, is1, more1) = p in
    let (r2, next2, is2, more2) = q in
    let same : r1 ≡ r2 = same_Some r1 r2 (sym next1 ∙ next2) in
    ap suc (good_same cfg good fine row other r1.1 t u r1.2 ys zs a.1 b.1 bad worse more1 (rw same more2))
