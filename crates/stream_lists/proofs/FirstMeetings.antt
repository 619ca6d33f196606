-- Where two tasks signal in one phase first.
use Rattle.std.proofs.Common.{◌≡◌, ℕ, zero, suc, ◌+◌, ◌-◌, ◌<◌, ◌≤◌, ◌⊎◌, inl, inr, Bool, true, false, ◌&&◌, List, [], ◌∷◌, map, get_or, Some, None, refl, sym, ap, ◌∙◌, arith}
use Rattle.std.specs.Prelude.{max, Option, is_some, nat_lt, nat_le, ◌||◌, if◌then◌else◌}
use Rattle.std.specs.List.{range_with_len, list_any, find}
use Rattle.std.specs.Option.{option_map}
use Rattle.std.proofs.lemmas.Bool.{cases_lt, and_parts}
use Rattle.std.proofs.lemmas.Bool.Decides.{nat_tests}
use Rattle.graph_base.specs.Graphs.{Graph, phaser_at}
use Rattle.stream_lists.specs.Ranges.{first_some}
use Rattle.stream_lists.specs.Meetings.{is_any, overlap, meet_on, meets_on, first_both, meeting_with, meeting_above, meeting_on}
use Rattle.stream_lists.specs.Spans.{nowhere, end_of}
use Rattle.stream_lists.specs.declared.meeting.Meeting.{Meeting}
use Rattle.stream_lists.specs.declared.span.Span.{Span}
use Rattle.stream_lists.proofs.EachPhase.{overlap_parts, overlap_from}

-- whether a phase is one of those from b on before the end
abbrev within : ℕ → ℕ → ℕ → Bool
within b be n = nat_le b n && nat_lt n be

-- the first of m phases from a on that is one of those
found_from : (b be a m : ℕ) → a < be → b < be → b < a + m → 0 < m
    → find (within b be) (range_with_len a m) ≡ Some (max a b)
found_from b be a zero low high here some = absurd (omega arith)
found_from b be a (suc m) low high here some =
    by (cases_lt a b)
    (λ less. found_from b be (a + 1) m (omega arith) high (omega arith) (omega arith))
  where
    by : (a < b) ⊎ (b ≤ a)
        → (a < b → find (within b be) (range_with_len (a + 1) m) ≡ Some (max (a + 1) b))
        → find (within b be) (range_with_len a (suc m)) ≡ Some (max a b)
    by (inl less) further =
        let before : within b be a ≡ false = grind (arith, nat_tests, less) in
        let same : max (a + 1) b ≡ max a b = omega arith in
        ap (λ is. if is then Some a else find (within b be) (range_with_len (a + 1) m)) before
        ∙ (further less ∙ ap Some same)
    by (inr more) further =
        let one : nat_le b a ≡ true = grind (arith, nat_tests, more) in
        let two : nat_lt a be ≡ true = grind (arith, nat_tests, low) in
        let same : a ≡ max a b = omega arith in
        ap (λ is. if is && nat_lt a be then Some a
        else find (within b be) (range_with_len (a + 1) m)) one
        ∙ (ap (λ is. if is then Some a else find (within b be) (range_with_len (a + 1) m)) two
        ∙ ap Some same)

-- none of m phases from a on passes
none_from : (test : ℕ → Bool) (a m : ℕ) → ((n : ℕ) → a ≤ n → n < a + m → test n ≡ false)
    → find test (range_with_len a m) ≡ None
none_from test a zero all = refl
none_from test a (suc m) all =
    ap (λ is. if is then Some a else find test (range_with_len (a + 1) m))
    (all a (omega arith) (omega arith))
    ∙ none_from test (a + 1) m (λ n low high. all n (omega arith) (omega arith))

-- where two tasks signal in one phase, the first is the later of those in which they begin
pub both_some : (a ae b be : ℕ) → overlap a ae b be ≡ true
    → find (within b be) (range_with_len a (ae - a)) ≡ Some (max a b)
both_some a ae b be e =
    let o = overlap_parts a ae b be e in
    let one : a < ae = o.0 in
    let two : b < be = o.1 in
    let three : a < be = o.2 in
    let four : b < ae = o.3 in
    found_from b be a (ae - a) three two (omega arith) (omega arith)

pub both_none : (a ae b be : ℕ) → overlap a ae b be ≡ false
    → find (within b be) (range_with_len a (ae - a)) ≡ None
both_none a ae b be apart =
    none_from (within b be) a (ae - a)
    (λ n low high. by n low (omega arith) (within b be n) refl)
  where
    by : (n : ℕ) → a ≤ n → n < ae → (is : Bool) → within b be n ≡ is → within b be n ≡ false
    by n low high false e = e
    by n low high true e =
        let parts = and_parts (nat_le b n) (nat_lt n be) e in
        let begun : b ≤ n = grind (arith, nat_tests, parts.0) in
        let short : n < be = grind (arith, nat_tests, parts.1) in
        absurd
        (let b : true ≡ false = sym (overlap_from a ae b be n low high begun short) ∙ apart in cc)

-- they have a first one exactly where they signal in one
both_is : (a ae b be : ℕ) → is_some (find (within b be) (range_with_len a (ae - a)))
    ≡ overlap a ae b be
both_is a ae b be = by (overlap a ae b be) refl
  where
    by : (is : Bool) → overlap a ae b be ≡ is
        → is_some (find (within b be) (range_with_len a (ae - a))) ≡ overlap a ae b be
    by true e = ap is_some (both_some a ae b be e) ∙ sym e
    by false e = ap is_some (both_none a ae b be e) ∙ sym e

-- so a task meets another exactly where there is such a phase
pub with_is : (graph : Graph) (spans : List Span) (t p u : ℕ)
    → is_some (meeting_with graph spans t p u) ≡ meet_on graph spans t p u
with_is graph spans t p u =
    by (first_both graph spans t p u)
    (both_is (get_or spans t nowhere).offset (end_of graph spans p t)
    (get_or spans u nowhere).offset (end_of graph spans p u))
  where
    by : (o : Option ℕ) → is_some o ≡ meet_on graph spans t p u
        → is_some {T = Meeting} (option_map (λ n. record { task = u; phase = n }) o) ≡ meet_on graph spans t p u
    by None e = e
    by (Some n) e = e

-- the first that is there is there where one is
first_is : {A : Type 0} (f : ℕ → Option A) (test : ℕ → Bool)
    → ((u : ℕ) → is_some (f u) ≡ test u) → (us : List ℕ)
    → is_some (first_some (map f us)) ≡ list_any test us
first_is f test same [] = refl
first_is {A = A} f test same (u ∷ us) = by (f u) (same u) (first_is f test same us)
  where
    by : (o : Option A) → is_some o ≡ test u → is_some (first_some (map f us)) ≡ list_any test us
        → is_some (first_some (o ∷ map f us)) ≡ (test u || list_any test us)
    by None e rest = rest ∙ ap (λ is. is || list_any test us) e
    by (Some x) e rest = ap (λ is. is || list_any test us) e

-- and a task meets one above it exactly where there is a first
pub on_is : (graph : Graph) (spans : List Span) (t p : ℕ)
    → is_some (meeting_on graph spans t p) ≡ meets_on graph spans t p
on_is graph spans t p = by (is_any (phaser_at graph p).op)
  where
    by : (any : Bool) → is_some (if any then meeting_above graph spans t p else None)
        ≡ (any && list_any (meet_on graph spans t p) (range_with_len 0 t))
    by false = refl
    by true =
        first_is (meeting_with graph spans t p) (meet_on graph spans t p)
        (with_is graph spans t p) (range_with_len 0 t)
