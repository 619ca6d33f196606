-- A part of a list that lies in two slices, and what is written from it.
use Rattle.std.proofs.Common.{◌≡◌, ℕ, ◌+◌, ◌-◌, ◌<◌, ◌≤◌, List, ◌++◌, length, map, take, drop, min, sym, ap, ap₂, ◌∙◌, arith, ⊎_elim}
use Rattle.std.proofs.lemmas.Bool.{cases_lt}
use Rattle.std.proofs.lemmas.List.{append_assoc, append-nil, drop-append-le, drop-drop, drop_all, drop_at, length-append, length-drop, length-map, length-take, map-append, take-append-le, take_all, take_at, take_rest}
use Rattle.std.proofs.Math.Seq.{drop-append-add, take-append-add}

-- what lies behind the first s
drop_split : {X : Type 0} (s i : ℕ) (front back : List X) → i ≡ min s (length front)
    → drop s (front ++ back) ≡ drop i front ++ drop (s - i) back
drop_split s i front back is =
    ⊎_elim
    (λ (past : length front < s).
    let at : s ≡ length front + (s - i) = omega arith in
    ap (λ n. drop n (front ++ back)) at ∙ drop-append-add front back (s - i)
    ∙ ap (λ l. l ++ drop (s - i) back) (sym (drop_all i front (omega arith))))
    (λ (in_front : s ≤ length front).
    let same : s ≡ i = omega arith in
    let none : 0 ≡ s - i = omega arith in
    drop-append-le s front back in_front
    ∙ ap₂ (λ a b. drop a front ++ drop b back) same none)
    (cases_lt (length front) s)

-- and the first n
take_split : {X : Type 0} (n m : ℕ) (front back : List X) → m ≡ min n (length front)
    → take n (front ++ back) ≡ take m front ++ take (n - m) back
take_split n m front back is =
    ⊎_elim
    (λ (past : length front < n).
    let at : n ≡ length front + (n - m) = omega arith in
    ap (λ k. take k (front ++ back)) at ∙ take-append-add front back (n - m)
    ∙ ap (λ l. l ++ take (n - m) back) (sym (take_all m front (omega arith))))
    (λ (in_front : n ≤ length front).
    let same : n ≡ m = omega arith in
    let none : 0 ≡ n - m = omega arith in
    take-append-le n front back in_front ∙ sym (append-nil (take n front))
    ∙ ap₂ (λ a b. take a front ++ take b back) same none)
    (cases_lt (length front) n)

module _ {X : Type 0} (front back xs : List X) (s n i m : ℕ) (xs_are : front ++ back ≡ xs)
    (i_is : i ≡ min s (length front)) (complete : s + n ≤ length xs)
  where
    abbrev first : List X
    first = take (length front - i) (drop i front)

    abbrev second : List X
    second = take (length back - (s - i)) (drop (s - i) back)

    long_first : length first ≡ length front - i
    long_first = ap length (take_rest front i) ∙ length-drop i front

    long_second : length second ≡ length back - (s - i)
    long_second = ap length (take_rest back (s - i)) ∙ length-drop (s - i) back

    long : length front + length back ≡ length xs
    long = sym (length-append front back) ∙ ap length xs_are

    module _ (m_is : m ≡ min n (length first)) where
      pub many_first : length (take m first) ≡ m
      many_first = omega (arith, length-take m first)

      many_second : length (take (n - m) second) ≡ n - m
      many_second = omega (arith, length-take (n - m) second, long_first, long_second, long)

      -- the part of the list is one of each slice
      pub taken_in_two : take n (drop s xs) ≡ take m first ++ take (n - m) second
      taken_in_two =
          ap (λ l. take n (drop s l)) (sym xs_are)
          ∙ ap (take n) (drop_split s i front back i_is)
          ∙ ap (take n) (ap₂ (λ a b. a ++ b) (sym (take_rest front i)) (sym (take_rest back (s - i))))
          ∙ take_split n m first second m_is

      module _ {Y : Type 0} (f : X → Y) (old out w : List Y) (room : n ≤ length old)
          (out_is : out ≡ map f (take m first) ++ drop (length (take m first)) old)
          (w_is : w ≡ map f (take (n - m) second)
          ++ drop (length (take (n - m) second)) (take (length out - m) (drop m out)))
        where
          before : take m out ≡ map f (take m first)
          before = ap (take m) out_is
              ∙ take_at (map f (take m first)) _ m (length-map (take m first) f ∙ many_first)

          behind : drop m out ≡ drop m old
          behind = ap (drop m) out_is
              ∙ drop_at (map f (take m first)) _ m (length-map (take m first) f ∙ many_first)
              ∙ ap (λ k. drop k old) many_first

          rest : drop (length (take (n - m) second)) (take (length out - m) (drop m out))
              ≡ drop n old
          rest =
              ap₂ (λ k l. drop k l) many_second (take_rest out m ∙ behind) ∙ drop-drop (n - m) m old
              ∙ ap (λ k. drop k old) (let k : m + (n - m) ≡ n = omega (arith, m_is) in k)

          pub written_in_two : take m out ++ (w ++ drop (length out - m) (drop m out))
              ≡ map f (take n (drop s xs)) ++ drop n old
          written_in_two =
              ap₂ (λ a b. a ++ (w ++ b)) before (drop_all (length out - m) (drop m out)
              (let l = length-drop m out in omega arith))
              ∙ ap (λ l. map f (take m first) ++ l) (append-nil w ∙ w_is
              ∙ ap (λ l. map f (take (n - m) second) ++ l) rest)
              ∙ sym (append_assoc (map f (take m first)) (map f (take (n - m) second)) (drop n old))
              ∙ ap (λ l. l ++ drop n old) (sym (map-append f (take m first) (take (n - m) second))
              ∙ ap (map f) (sym taken_in_two))
