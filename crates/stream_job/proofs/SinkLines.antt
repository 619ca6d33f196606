-- The lines of the sinks.
use Rattle.std.proofs.Common.{◌≡◌, ◌≢◌, ℕ, ℤ, zero, suc, ◌+◌, ◌<◌, ◌≤◌, Bool, true, false, cond, List, [], ◌∷◌, ◌++◌, Option, Some, length, get_or, slice_get, set, map, refl, sym, ap, subst, ◌∙◌, arith}
use Rattle.std.specs.Prelude.{IfSome}
use Rattle.std.specs.Vec.{vec_capacity}
use Rattle.std.specs.List.{filter, range_with_len}
use Rattle.std.proofs.Math.Seq.{map-set_same}
use Rattle.std.proofs.lemmas.List.{map-set, get_or-map}
use Rattle.std.proofs.lemmas.Option.{slice_get_read, slice_get_within, get_or_from_slice_get, same_Some}
use Rattle.stream_eval.specs.declared.whole.Lines.{Lines}
use Rattle.stream_job.specs.Stepping.{HasRoomIn, more, with_more}
use Rattle.stream_job.specs.Machines.{kept_behind}

-- a line that is written keeps what it had of this
pub line_stays : {Y : Type 0} (f : Lines → Y) (lines : List Lines) (i : ℕ) (read new : Lines)
    → read ≡ get_or lines i read → f new ≡ f read → map f (set lines i new) ≡ map f lines
line_stays f lines i read new is same = map-set_same f lines i new read (same ∙ ap f is)

-- the place of a sink's line
pub line_there : (lines : List Lines) (i : ℕ) (sink : Option ℕ) → sink ≡ Some i
    → IfSome sink (λ k. k < length lines) → i < length lines
line_there lines i sink is there = subst (λ o. IfSome o (λ k. k < length lines)) is there

pub room_for : (lines : List Lines) (i many : ℕ) (read : Lines) (sink : Option ℕ)
    → sink ≡ Some i → IfSome sink (λ k. k < length lines) → IfSome sink (HasRoomIn lines many)
    → read ≡ get_or lines i read
    → length read.values.items + many ≤ vec_capacity read.values
room_for lines i many read sink is there room value =
    subst (λ k. k + many ≤ vec_capacity read.values) read.values.ok.0
    ((subst (λ o. IfSome o (HasRoomIn lines many)) is room) read
    (slice_get_read lines (length lines) i read refl (line_there lines i sink is there) value))

pub kept_line : (given : ℕ → List ℤ) (lines : List Lines) (i : ℕ) (read new : Lines)
    (xs : List ℤ) (sink : Option ℕ) → sink ≡ Some i → IfSome sink (λ k. k < length lines)
    → read ≡ get_or lines i read → kept_behind given new ≡ more xs (kept_behind given read)
    → map (kept_behind given) (set lines i new)
    ≡ with_more sink xs (map (kept_behind given) lines)
kept_line given lines i read new xs sink is there value longer =
    let keeps = kept_behind given in
    let lt = line_there lines i sink is there in
    map-set keeps lines i new
    ∙ ap (set (map keeps lines) i) (longer
    ∙ ap (more xs) (ap keeps value ∙ sym (get_or-map keeps lines i read (0, []) lt)))
    ∙ sym (ap (λ o. with_more o xs (map keeps lines)) is)

pub map_same : {X Y : Type 0} (f g : X → Y) (xs : List X) → ((x : X) → f x ≡ g x)
    → map f xs ≡ map g xs
map_same f g [] same = refl
map_same f g (x ∷ xs) same =
    ap (λ y. y ∷ map f xs) (same x) ∙ ap (λ ys. g x ∷ ys) (map_same f g xs same)

-- ---- the sinks are in order

-- each number of the list is above those before it
abbrev Ascends : ℕ → List ℕ → Type 0
Ascends from [] = Unit {0}
Ascends from (x ∷ xs) = (from ≤ x) × Ascends (suc x) xs

lower : (low from : ℕ) (xs : List ℕ) → low ≤ from → Ascends from xs → Ascends low xs
lower low from [] le up = tt
lower low from (x ∷ xs) le up = (let first = up.0 in omega arith, up.1)

pub filter_ascends : (test : ℕ → Bool) (from n : ℕ) → Ascends from (filter test (range_with_len from n))
filter_ascends test from zero = tt
filter_ascends test from (suc n) =
    let one : from + 1 ≡ suc from = omega arith in
    by (test from) (subst (λ a. Ascends a (filter test (range_with_len (from + 1) n))) one
    (filter_ascends test (from + 1) n))
  where
    by : (b : Bool) → Ascends (suc from) (filter test (range_with_len (from + 1) n))
        → Ascends from (cond b (from ∷ filter test (range_with_len (from + 1) n))
        (filter test (range_with_len (from + 1) n)))
    by true rest = (let le : from ≤ from = omega arith in le, rest)
    by false rest =
        lower from (suc from) (filter test (range_with_len (from + 1) n)) (omega arith) rest

above : (from i t : ℕ) (xs : List ℕ) → Ascends from xs → slice_get xs i ≡ Some t → from ≤ t
above from i t [] up found = absurd (cc)
above from zero t (x ∷ xs) up found =
    omega (arith, same_Some x t found, up.0)
above from (suc i) t (x ∷ xs) up found =
    omega (arith, up.0, above (suc x) i t xs up.1 found)

-- no number stands at two places
pub one_place : (from i j t : ℕ) (xs : List ℕ) → Ascends from xs → slice_get xs i ≡ Some t
    → slice_get xs j ≡ Some t → i ≡ j
one_place from i j t [] up found also = absurd (cc)
one_place from zero zero t (x ∷ xs) up found also = refl
one_place from zero (suc j) t (x ∷ xs) up found also =
    omega (arith, same_Some x t found, above (suc x) j t xs up.1 also)
one_place from (suc i) zero t (x ∷ xs) up found also =
    omega (arith, same_Some x t also, above (suc x) i t xs up.1 found)
one_place from (suc i) (suc j) t (x ∷ xs) up found also =
    ap suc (one_place (suc x) i j t xs up.1 found also)

others_same : {Y : Type 0} (f g : ℕ → Y) (t from : ℕ) (xs : List ℕ) → t < from → Ascends from xs
    → ((u : ℕ) → u ≢ t → f u ≡ g u) → map f xs ≡ map g xs
others_same f g t from [] lt up same = refl
others_same f g t from (x ∷ xs) lt up same =
    let le = up.0 in
    ap (λ y. y ∷ map f xs) (same x (λ e. omega arith))
    ∙ ap (λ ys. g x ∷ ys) (others_same f g t (suc x) xs (omega arith) up.1 same)

pub one_set : {Y : Type 0} (f g : ℕ → Y) (t from i : ℕ) (xs : List ℕ) → Ascends from xs
    → slice_get xs i ≡ Some t → ((u : ℕ) → u ≢ t → f u ≡ g u)
    → set (map f xs) i (g t) ≡ map g xs
one_set f g t from i [] up found same = absurd (cc)
one_set f g t from zero (x ∷ xs) up found same =
    let it : x ≡ t = same_Some x t found in
    ap (λ y. g y ∷ map f xs) (sym it)
    ∙ ap (λ ys. g x ∷ ys) (others_same f g t (suc x) xs (omega arith) up.1 same)
one_set f g t from (suc i) (x ∷ xs) up found same =
    let more = above (suc x) i t xs up.1 found in
    ap (λ y. y ∷ set (map f xs) i (g t)) (same x (λ e. omega arith))
    ∙ ap (λ ys. g x ∷ ys) (one_set f g t (suc x) i xs up.1 found same)

-- the lines after a sink has taken these values more
pub one_line : (test : ℕ → Bool) (n i t : ℕ) (xs : List ℤ) (before after : ℕ → List ℤ)
    → slice_get (filter test (range_with_len 0 n)) i ≡ Some t
    → after t ≡ before t ++ xs → ((u : ℕ) → u ≢ t → before u ≡ after u)
    → with_more (Some i) xs (map (λ u. (u, before u)) (filter test (range_with_len 0 n)))
    ≡ map (λ u. (u, after u)) (filter test (range_with_len 0 n))
one_line test n i t xs before after found longer same =
    let us = filter test (range_with_len 0 n) in
    let f : ℕ → ℕ × List ℤ = λ u. (u, before u) in
    let lt = slice_get_within us i t found in
    let read : get_or (map f us) i (0, []) ≡ f t =
    get_or-map f us i 0 (0, []) lt ∙ ap f (get_or_from_slice_get us i t 0 found) in
    ap (λ line. set (map f us) i (more xs line)) read
    ∙ ap (λ l. set (map f us) i (t, l)) (sym longer)
    ∙ one_set f (λ u. (u, after u)) t 0 i us (filter_ascends test 0 n) found
    (λ u apart. ap (λ l. (u, l)) (same u apart))
