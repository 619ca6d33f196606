-- One file after another that is made for a sink.
use Rattle.std.proofs.Common.{◌≡◌, ◌⊎◌, ◌<◌, ◌≤◌, ◌+◌, ◌++◌, inl, inr, ℕ, zero, suc, Bool, true, false, List, [], ◌∷◌, Some, length, slice_get, refl, sym, ap, subst, ◌∙◌, arith}
use Rattle.std.specs.Prelude.{◌||◌}
use Rattle.std.specs.List.{list_any, range_with_len}
use Rattle.std.specs.Str.{bytes_eq}
use Rattle.std.proofs.lemmas.Bool.{cases_lt}
use Rattle.std.proofs.lemmas.Option.{same_Some}
use Rattle.std.proofs.lemmas.Slice.Eq.{bytes_eq-Decides}
use Rattle.phase_words.specs.Outputs.{Pair}
use Rattle.graph_base.specs.Graphs.{Graph}
use Rattle.phase_stream.specs.Outputs.{AreNotRead, is_read_file}

-- ---- apart from what is read

-- none of the first n files is read by the stream
abbrev pub AreFirstApart : Bool → List ℕ → Graph → List Pair → ℕ → Type 0
AreFirstApart is_beside name graph files n = (k : ℕ) (file : Pair) → k < n
    → slice_get files k ≡ Some file → is_read_file is_beside name graph file.1 ≡ false

pub apart_more : (is_beside : Bool) (name : List ℕ) (graph : Graph) (files : List Pair) (n : ℕ)
    (one : Pair) → AreFirstApart is_beside name graph files n → slice_get files n ≡ Some one
    → is_read_file is_beside name graph one.1 ≡ false
    → AreFirstApart is_beside name graph files (n + 1)
apart_more is_beside name graph files n one before here none k file lt there = elim (cases_lt k n) [
  | inl less ↦ before k file less there
  | inr past ↦
      (let same : n ≡ k = omega (arith, lt, past) in
      let is : one ≡ file = same_Some one file (sym here ∙ (ap (slice_get files) same ∙ there)) in
      subst (λ (f : Pair). is_read_file is_beside name graph f.1 ≡ false) is none)
]

got_within : (files : List Pair) (k : ℕ) (file : Pair) → slice_get files k ≡ Some file
    → k < length files
got_within [] k file e = absurd (cc)
got_within (x ∷ xs) zero file e = omega arith
got_within (x ∷ xs) (suc k) file e =
    let within = got_within xs k file e in omega (arith, within)

pub apart_all : (is_beside : Bool) (name : List ℕ) (graph : Graph) (files : List Pair) (n : ℕ)
    → length files ≤ n → AreFirstApart is_beside name graph files n
    → AreNotRead is_beside name graph files
apart_all is_beside name graph files n all first k file there =
    let within = got_within files k file there in
    first k file (omega (arith, within, all)) there

-- ---- names

-- two names are apart where a look that finds the same name tells that they are not one
pub apart_named : (is : Bool) (xs ys : List ℕ) → (xs ≡ ys → is ≡ true) → is ≡ false
    → bytes_eq xs ys ≡ false
apart_named is xs ys named none = by (bytes_eq xs ys) refl
  where
    by : (b : Bool) → bytes_eq xs ys ≡ b → bytes_eq xs ys ≡ false
    by false e = e
    by true e =
        absurd (let bad : true ≡ false = sym (named ((bytes_eq-Decides xs ys).0 e)) ∙ none in cc)

pub neither : (a b : Bool) → a ≡ false → b ≡ false → (a || b) ≡ false
neither false b e f = f
neither true b e f = absurd (cc)

-- ---- the files of sources

-- a number of a range that passes
pub any_in_range : (test : ℕ → Bool) (from n k : ℕ) → from ≤ k → k < from + n → test k ≡ true
    → list_any test (range_with_len from n) ≡ true
any_in_range test from zero k low high is = absurd (omega (arith, low, high))
any_in_range test from (suc n) k low high is =
    by (test from) refl (cases_lt from k) (any_in_range test (from + 1) n k)
  where
    by : (b : Bool) → test from ≡ b → (from < k) ⊎ (k ≤ from)
        → (from + 1 ≤ k → k < from + 1 + n → test k ≡ true
        → list_any test (range_with_len (from + 1) n) ≡ true)
        → (b || list_any test (range_with_len (from + 1) n)) ≡ true
    by true e which rest = refl
    by false e (inl less) rest = rest (omega (arith, less)) (omega (arith, high)) is
    by false e (inr past) rest =
        let same : k ≡ from = omega (arith, low, past) in
        absurd (let bad : true ≡ false = sym is ∙ (ap test same ∙ e) in cc)

-- one number more does not pass
range_more : (from n : ℕ) → range_with_len from (suc n) ≡ range_with_len from n ++ (from + n) ∷ []
range_more from zero =
    let same : from ≡ from + 0 = omega arith in ap (λ k. k ∷ []) same
range_more from (suc n) =
    let same : from + 1 + n ≡ from + suc n = omega arith in
    ap (λ l. from ∷ l) (range_more (from + 1) n
    ∙ ap (λ k. range_with_len (from + 1) n ++ k ∷ []) same)

none_more : (test : ℕ → Bool) (xs : List ℕ) (k : ℕ) → list_any test xs ≡ false → test k ≡ false
    → list_any test (xs ++ k ∷ []) ≡ false
none_more test [] k none is = ap (λ b. b || false) is
none_more test (x ∷ xs) k none is = by (test x) refl none (none_more test xs k)
  where
    by : (b : Bool) → test x ≡ b → (b || list_any test xs) ≡ false
        → (list_any test xs ≡ false → test k ≡ false → list_any test (xs ++ k ∷ []) ≡ false)
        → (test x || list_any test (xs ++ k ∷ [])) ≡ false
    by true e none rest = absurd (cc)
    by false e none rest = ap (λ b. b || list_any test (xs ++ k ∷ [])) e ∙ rest none is

pub none_in_range : (test : ℕ → Bool) (n : ℕ) → list_any test (range_with_len 0 n) ≡ false
    → test n ≡ false → list_any test (range_with_len 0 (n + 1)) ≡ false
none_in_range test n none is =
    let next : n + 1 ≡ suc n = omega arith in
    let same : n ≡ 0 + n = omega arith in
    ap (λ m. list_any test (range_with_len 0 m)) next
    ∙ ap (list_any test) (range_more 0 n)
    ∙ none_more test (range_with_len 0 n) (0 + n) none (subst (λ m. test m ≡ false) same is)
