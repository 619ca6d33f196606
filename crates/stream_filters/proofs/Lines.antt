-- The line in which a filter keeps its samples.
use Rattle.std.proofs.Common.{◌≡◌, ℕ, zero, suc, ◌+◌, ◌-◌, ◌*◌, ◌^◌, ◌<◌, ◌≤◌, List, [], ◌∷◌, ◌++◌, length, take, drop, reverse, get_or, ℤ, pos, ◌+ℤ◌, refl, sym, ap, subst, ◌∙◌, append-nil, append_assoc, arith, ◌⊎◌, inl, inr}
use Rattle.std.specs.Prelude.{replicate, unsigned_abs}
use Rattle.std.specs.List.{All, copy_within}
use Rattle.std.proofs.lemmas.Bool.{cases_lt}
use Rattle.std.proofs.lemmas.List.{get_or-take, get_or_append_left, get_or-append-add, get_or-replicate, get_or-reverse, get_or_past, length-replicate, length-take, length_push, length-drop, length-reverse, reverse-append, take_all, take-append-drop, take-append-le}
use Rattle.std.proofs.lemmas.List.Elements.{All-weaker}
use Rattle.stream_filters.specs.Sums.{at_place, back, shifted_down, weight, summed}
use Rattle.stream_filters.specs.Weighing.{AreAhead, WeigherState, ShowsSamples, after_weighed, weighed_after, span}
use Rattle.stream_filters.specs.declared.form.Form.{Form}
use Rattle.stream_filters.specs.WeigherFields.{AreSmall, IsNarrowBack, answer_at, window_of}
use Rattle.stream_filters.specs.Range.{ranged}
use Rattle.stream_filters.proofs.Weighted.{weighted-same}
use Rattle.stream_filters.proofs.Outputs.{back-zero, back-suc}

-- ---- room is made

-- the last samples of a line are those of its end
window_of-end : (kept : ℕ) (line : List ℤ) → kept ≤ length line
    → window_of kept (drop (length line - kept) line) ≡ window_of kept line
window_of-end kept line held =
    let start = length line - kept in
    let rest = drop start line in
    let many : length (reverse rest) ≡ kept =
    length-reverse rest ∙ (length-drop start line ∙ omega arith) in
    sym (ap (λ xs. take kept (reverse xs)) (sym (take-append-drop start line))
    ∙ (ap (take kept) (reverse-append (take start line) rest)
    ∙ (take-append-le kept (reverse rest) (reverse (take start line)) (omega arith))))

-- they stay where they are moved to the front, and the rest is cut off
pub window_of-moved : (kept start end : ℕ) (line : List ℤ) → kept ≤ length line
    → start ≡ length line - kept → end ≡ length line
    → window_of kept (take kept (copy_within line start end 0)) ≡ window_of kept line
window_of-moved kept start end line held start_is end_is =
    let rest = drop start line in
    let many : length rest ≡ kept = length-drop start line ∙ (omega arith) in
    let all : take (end - start) rest ≡ rest = take_all _ rest (omega arith) in
    let moved : take kept (take (end - start) rest ++ drop (0 + (end - start)) line) ≡ rest =
    ap (λ xs. take kept (xs ++ drop (0 + (end - start)) line)) all
    ∙ (take-append-le kept rest _ (omega arith) ∙ take_all kept rest (omega arith)) in
    ap (window_of kept) (moved ∙ ap (λ i. drop i line) start_is) ∙ window_of-end kept line held

-- ---- one sample more

take_again : (n m : ℕ) (xs : List ℤ) → n ≤ m → take n (take m xs) ≡ take n xs
take_again zero m xs le = refl
take_again (suc n) zero xs le = absurd (omega arith)
take_again (suc n) (suc m) [] le = refl
take_again (suc n) (suc m) (x ∷ xs) le = ap (λ l. x ∷ l) (take_again n m xs (omega arith))

pub window_of-push : (n : ℕ) (line : List ℤ) (x : ℤ)
    → window_of n (line ++ x ∷ []) ≡ take n (x ∷ window_of n line)
window_of-push zero line x = refl
window_of-push (suc n) line x =
    ap (take (suc n)) (reverse-append line (x ∷ []))
    ∙ ap (λ xs. x ∷ xs) (sym (take_again n (suc n) (reverse line) (omega arith)))

-- ---- filters by their lines

-- the filter with these taps and this form that has its samples in the line
abbrev pub fir_of : List ℤ → Form → List ℤ → WeigherState
fir_of taps form line =
    record { taps = taps; form = form; window = window_of (span taps form) line }

-- room was made, and one sample came
pub fir_of-push : (taps : List ℤ) (form : Form) (old line more : List ℤ) (x : ℤ)
    → window_of (span taps form) line ≡ window_of (span taps form) old → more ≡ line ++ x ∷ []
    → fir_of taps form more ≡ after_weighed (fir_of taps form old) x
fir_of-push taps form old line more x same pushed =
    ap (λ window. record { taps = taps; form = form; window = window })
    (ap (window_of (span taps form)) pushed
    ∙ (window_of-push (span taps form) line x
    ∙ ap (λ window. take (span taps form) (x ∷ window)) same))

-- ---- what a window shows

pub window_of-shows : (n : ℕ) (line : List ℤ) (j : ℕ) → j < n
    → at_place (window_of n line) j ≡ back line j
window_of-shows n line j lt = get_or-take n (reverse line) j (pos 0) lt

-- a window over zeros
pub window_of-zeros : (n : ℕ) (line : List ℤ) → line ≡ replicate n (pos 0) → (j : ℕ)
    → at_place (window_of n line) j ≡ pos 0
window_of-zeros n line zeros j = by (cases_lt j n)
  where
    long : length line ≡ n
    long = ap length zeros ∙ length-replicate n (pos 0)

    by : (j < n) ⊎ (n ≤ j) → at_place (window_of n line) j ≡ pos 0
    by (inl below) =
        window_of-shows n line j below
        ∙ (get_or-reverse line j (pos 0) (omega (arith, long))
        ∙ (ap (λ l. get_or l (length line - 1 - j) (pos 0)) zeros
        ∙ get_or-replicate n (length line - 1 - j) (pos 0) (pos 0) (omega (arith, long))))
    by (inr past) =
        get_or_past (window_of n line) j (pos 0) (omega (arith, length-take n (reverse line)))

-- equal windows show the same samples
pub window_of-same : (n : ℕ) (line other : List ℤ) → window_of n line ≡ window_of n other
    → (j : ℕ) → j < n → back line j ≡ back other j
window_of-same n line other e j lt =
    sym (window_of-shows n line j lt)
    ∙ (ap (λ window. at_place window j) e ∙ window_of-shows n other j lt)

-- the sum of a window is that of the last samples of the line
pub summed-line : (taps : List ℤ) (form : Form) (line : List ℤ)
    → summed (at_place (window_of (span taps form) line)) taps form ≡ summed (back line) taps form
summed-line taps form line =
    ap (λ z. z +ℤ form.plus) (weighted-same _ _ taps (λ j lt.
    window_of-shows (span taps form) line (form.delay + j) (omega arith)))

-- so the answer is that at the last sample of the line
pub answer_at-line : (taps : List ℤ) (form : Form) (line : List ℤ)
    → answer_at taps form (window_of (span taps form) line) ≡ ranged (weighed_after taps form line)
answer_at-line taps form line =
    ap (λ z. ranged (shifted_down z form.shift)) (summed-line taps form line)

-- ---- lines whose last samples are the same

-- the last n samples of one are those of the other
abbrev pub Agree : ℕ → List ℤ → List ℤ → Type 0
Agree n line other = (j : ℕ) → j < n → back line j ≡ back other j

pub Agree-push : (n : ℕ) (line other : List ℤ) (x : ℤ) → Agree n line other
    → Agree n (line ++ x ∷ []) (other ++ x ∷ [])
Agree-push n line other x agree zero lt = back-zero line x ∙ sym (back-zero other x)
Agree-push n line other x agree (suc j) lt =
    let below : j < n = omega arith in
    back-suc line x j ∙ (agree j below ∙ sym (back-suc other x j))

pub Agree-append : (n : ℕ) (line other xs : List ℤ) → Agree n line other
    → Agree n (line ++ xs) (other ++ xs)
Agree-append n line other [] agree =
    λ j lt. ap (λ l. back l j) (append-nil line)
    ∙ (agree j lt ∙ ap (λ l. back l j) (sym (append-nil other)))
Agree-append n line other (x ∷ xs) agree =
    λ j lt. ap (λ l. back l j) (sym (append_assoc line (x ∷ []) xs))
    ∙ (Agree-append n (line ++ x ∷ []) (other ++ x ∷ []) xs (Agree-push n line other x agree) j lt
    ∙ ap (λ l. back l j) (append_assoc other (x ∷ []) xs))

-- a line agrees with the samples that its filter stands for
pub Agree-stands : (taps : List ℤ) (form : Form) (old line taken : List ℤ)
    → window_of (span taps form) line ≡ window_of (span taps form) old
    → ShowsSamples (fir_of taps form old) taken → Agree (span taps form) line taken
Agree-stands taps form old line taken same has j lt =
    window_of-same (span taps form) line old same j lt
    ∙ (sym (window_of-shows (span taps form) old j lt) ∙ has.shows j lt)

pub Shows-agree : (taps : List ℤ) (form : Form) (line taken : List ℤ)
    → Agree (span taps form) line taken → ShowsSamples (fir_of taps form line) taken
Shows-agree taps form line taken agree = record {
  shows = λ j lt. window_of-shows (span taps form) line j lt ∙ agree j lt;
}

-- ---- samples within a limit

-- with so many more of these samples, the last n are within the limit
abbrev pub AreRecent : ℕ → ℕ → ℕ → List ℤ → Type 0
AreRecent limit n left line =
    (j : ℕ) → j + left < n → unsigned_abs (back line j) ≤ limit

pub AreRecent-push : (limit n left : ℕ) (line : List ℤ) (x : ℤ) → AreRecent limit n left line
    → unsigned_abs x ≤ limit → AreRecent limit n (left - 1) (line ++ x ∷ [])
AreRecent-push limit n left line x recent small zero lt = rw (back-zero line x) small
AreRecent-push limit n left line x recent small (suc j) lt =
    rw (back-suc line x j) (recent j (omega arith))

-- a sample beyond the limit counts as many as the window holds
pub AreRecent-next : (limit n left next : ℕ) (line : List ℤ) (x : ℤ) → AreRecent limit n left line
    → ((unsigned_abs x ≤ limit) × (next ≡ left - 1)) ⊎ (next ≡ n)
    → AreRecent limit n next (line ++ x ∷ [])
AreRecent-next limit n left next line x recent (inl small) =
    subst (λ m. AreRecent limit n m (line ++ x ∷ [])) (sym small.1)
    (AreRecent-push limit n left line x recent small.0)
AreRecent-next limit n left next line x recent (inr wide) = λ j lt. absurd (omega arith)

-- all of a line is within the limit
pub AreRecent-all : (limit n : ℕ) (line : List ℤ) → All (λ x. unsigned_abs x ≤ limit) line
    → n ≡ length line → AreRecent limit n 0 line
AreRecent-all limit n line all many j lt =
    rw (get_or-reverse line j (pos 0) (omega arith))
    (all (length line - 1 - j) (pos 0) (omega arith))

pub AreRecent-same : (limit n left : ℕ) (line other : List ℤ)
    → window_of n line ≡ window_of n other → AreRecent limit n left other
    → AreRecent limit n left line
AreRecent-same limit n left line other same recent j lt =
    rw (window_of-same n line other same j (omega arith)) (recent j lt)

-- a window of samples within a limit that the taps allow
pub IsNarrowBack-recent : (taps line : List ℤ) (form : Form) (limit : ℕ) → AreAhead taps form
    → limit < 2 ^ 31 → weight taps * limit + unsigned_abs form.plus < 2 ^ 63
    → ((j : ℕ) → j < length taps → unsigned_abs (back line j) ≤ limit)
    → IsNarrowBack taps form.plus line
IsNarrowBack-recent taps line form limit are short fits small = record {
  limit = limit;
  short = short;
  short_taps = All-weaker (λ tap. unsigned_abs tap ≤ 2147483647) (λ tap. unsigned_abs tap < 2 ^ 31)
      (λ tap le. omega arith) taps are.small;
  small = small;
  fits = fits;
}

-- where all of the window is within the limit, and all samples that come
pub AreSmall-behind : (limit n : ℕ) (line xs : List ℤ) → AreRecent limit n 0 line
    → All (λ x. unsigned_abs x ≤ limit) xs
    → AreSmall limit (line ++ xs) (length line + 1 - n) (length line + length xs)
AreSmall-behind limit n line xs recent all m ge lt = by (cases_lt m (length line))
  where
    by : (m < length line) ⊎ (length line ≤ m) → unsigned_abs (get_or (line ++ xs) m (pos 0)) ≤ limit
    by (inl below) =
        let place : length line - 1 - (length line - 1 - m) ≡ m = omega arith in
        let same : get_or (line ++ xs) m (pos 0) ≡ back line (length line - 1 - m) =
        get_or_append_left line xs (pos 0) m below
        ∙ sym (get_or-reverse line (length line - 1 - m) (pos 0) (omega arith)
        ∙ ap (λ i. get_or line i (pos 0)) place) in
        rw same (recent (length line - 1 - m) (omega arith))
    by (inr above) =
        let place : m ≡ length line + (m - length line) = omega arith in
        let same : get_or (line ++ xs) m (pos 0) ≡ get_or xs (m - length line) (pos 0) =
        ap (λ i. get_or (line ++ xs) i (pos 0)) place
        ∙ get_or-append-add line xs (m - length line) (pos 0) in
        rw same (all (m - length line) (pos 0) (omega arith))

-- so are then the last ones
pub AreRecent-behind : (limit n : ℕ) (line xs : List ℤ) → AreRecent limit n 0 line
    → All (λ x. unsigned_abs x ≤ limit) xs → n ≤ length line → AreRecent limit n 0 (line ++ xs)
AreRecent-behind limit n line [] recent all long =
    subst (AreRecent limit n 0) (sym (append-nil line)) recent
AreRecent-behind limit n line (x ∷ xs) recent all long =
    let one = AreRecent-push limit n 0 line x recent (all 0 (pos 0) (omega arith)) in
    subst (AreRecent limit n 0) (append_assoc line (x ∷ []) xs)
    (AreRecent-behind limit n (line ++ x ∷ []) xs one (λ k d lt. all (suc k) d (omega arith))
    (omega (arith, length_push line x)))
