-- Samples that a filter takes one after the other, and a state that shows the last of them.
use Rattle.std.proofs.Common.{◌≡◌, ℕ, ◌+◌, ◌-◌, ◌<◌, ◌≤◌, Bool, true, false, not, List, [], ◌∷◌, ◌++◌, ℤ, pos, ◌+ℤ◌, length, take, drop, reverse, get_or, Ok, Err, refl, sym, ap, subst, ◌∙◌, arith, append_assoc, length-append, set}
use Rattle.std.specs.Prelude.{Result, nat_le, nat_lt, unsigned_abs}
use Rattle.std.proofs.Math.Seq.{drop-append-add}
use Rattle.std.proofs.lemmas.Bool.{le-leb, ltb-false, ltb-true}
use Rattle.std.proofs.lemmas.Grind.{drop_more_same}
use Rattle.std.proofs.lemmas.List.{drop-set-lt, take_more, take_more_set, reverse-append, length-reverse, get_or_append_left, get_or-append_right, get_or-drop, get_or-reverse, length-drop, length-take-le}
use Rattle.std.proofs.lemmas.List.FromFn.{map-range_with_len_more}
use Rattle.phase_accum.specs.Sends.{AreSends, IsSend, value_max}
use Rattle.stream_filters.specs.Filter.{FirState, StandsFor, back, output_after, reach, shifted_down, summed, with_single}
use Rattle.stream_filters.specs.declared.form.Form.{Form}
use Rattle.stream_filters.specs.Range.{ranged}
use Rattle.stream_filters.specs.declared.fault.TooBigValue.{TooBigValue}
use Rattle.stream_lists.proofs.Growing.{map-same}
use Rattle.stream_lists.proofs.InRange.{IsSend-in_range}
use Rattle.stream_filters.proofs.Outputs.{alone-after}
use Rattle.stream_filters.proofs.Weighted.{weighted-same}
use Rattle.phase_accum.proofs.Parts.{AreSends-append}
use Rattle.stream_filters.proofs.Made.{ranged-ok, ranged-err}
use Rattle.phase_c.specs.Filtered.{AreOfFilter, Filters, FiltersAll, FiltersTo, ShowsLast, first_outputs, output_in_block}

-- ---- one sample after the other

-- one more sample behind those that were taken
pub one_more : (before samples : List ℤ) (i : ℕ) (d : ℤ) → i < length samples
    → (before ++ take i samples) ++ get_or samples i d ∷ [] ≡ before ++ take (i + 1) samples
one_more before samples i d less =
    append_assoc before (take i samples) (get_or samples i d ∷ [])
    ∙ ap (λ xs. before ++ xs) (sym (take_more samples i d less))

-- and one more output
pub outputs_more : (taps : List ℤ) (form : Form) (before block : List ℤ) (n : ℕ)
    → first_outputs taps form before block (n + 1)
    ≡ first_outputs taps form before block n ++ output_in_block taps form before block n ∷ []
outputs_more taps form before block n =
    map-range_with_len_more (output_in_block taps form before block) 0 n n (omega arith)

-- a value that was answered is the output, and in range
answered : (z v : ℤ) → ranged z ≡ Ok v → (v ≡ z) × IsSend v
answered z v e =
    let is = ranged-ok z v e in
    (sym is.0, subst IsSend is.0 (IsSend-in_range z is.1))

-- a value that was not is out of range
unanswered : (z : ℤ) (f : TooBigValue) → ranged z ≡ Err f → IsSend z → ⊥
unanswered z f e is =
    let inside : nat_le (unsigned_abs z) value_max ≡ true =
    le-leb (unsigned_abs z) value_max is.small in
    let no : not true ≡ true = sym (ap not inside) ∙ ranged-err z f e in
    absurd (cc)

-- ---- a step of a filter that took the first samples of a block

-- it has taken the next one, x
pub step_stands : (now : FirState) (before block : List ℤ) (n : ℕ) → n < length block → (x : ℤ)
    → x ≡ get_or block n (pos 0) → StandsFor now ((before ++ take n block) ++ x ∷ [])
    → StandsFor now (before ++ take (n + 1) block)
step_stands now before block n less x next stands =
    subst (StandsFor now) (one_more before block n (pos 0) less)
    (subst (λ z. StandsFor now ((before ++ take n block) ++ z ∷ [])) next stands)

module _ (old now : FirState) (before block : List ℤ) (n : ℕ) (less : n < length block) (x : ℤ)
    (next : x ≡ get_or block n (pos 0)) (answer : Result ℤ TooBigValue)
    (taps : now.taps ≡ old.taps) (form : now.form ≡ old.form)
    (told : answer ≡ ranged (output_after now.taps now.form ((before ++ take n block) ++ x ∷ [])))
  where
    abbrev output : ℤ
    output = output_in_block old.taps old.form before block n

    answer_is : answer ≡ ranged output
    answer_is =
        let was = before ++ take n block in
        let samples = before ++ take (n + 1) block in
        told
        ∙ (ap (λ z. ranged (output_after now.taps now.form (was ++ z ∷ []))) next
        ∙ (ap (λ xs. ranged (output_after now.taps now.form xs))
        (one_more before block n (pos 0) less)
        ∙ (ap (λ ts. ranged (output_after ts now.form samples)) taps
        ∙ ap (λ k. ranged (output_after old.taps k samples)) form)))

    -- a value that it answers is the output there, and in range
    pub step_gives : (v : ℤ) → answer ≡ Ok v → (v ≡ output) × IsSend v
    step_gives v is = answered output v (sym answer_is ∙ is)

    -- where it answers none, the output is out of range
    pub step_fails : (f : TooBigValue) → answer ≡ Err f → IsSend output → ⊥
    step_fails f is = unanswered output f (sym answer_is ∙ is)

-- ---- an output that is written

-- what stands at a place from which on two lists are the same
pub same_behind : (xs ys : List ℤ) (n : ℕ) (d : ℤ) → drop n xs ≡ drop n ys
    → get_or xs n d ≡ get_or ys n d
same_behind xs ys n d same =
    ap (λ k. get_or xs k d) (omega arith)
    ∙ (sym (get_or-drop n xs 0 d)
    ∙ (ap (λ zs. get_or zs 0 d) same
    ∙ (get_or-drop n ys 0 d ∙ ap (λ k. get_or ys k d) (omega arith))))

-- one more output was written
pub written_more : (taps : List ℤ) (form : Form) (before block out : List ℤ) (n : ℕ) (v : ℤ)
    → n < length out → take n out ≡ first_outputs taps form before block n
    → v ≡ output_in_block taps form before block n
    → take (n + 1) (set out n v) ≡ first_outputs taps form before block (n + 1)
written_more taps form before block out n v room written is =
    take_more_set out n v room
    ∙ (ap (λ vs. vs ++ v ∷ []) written
    ∙ (ap (λ z. first_outputs taps form before block n ++ z ∷ []) is
    ∙ sym (outputs_more taps form before block n)))

-- and is in range
pub fits_more : (out : List ℤ) (n : ℕ) (v : ℤ) → n < length out → AreSends (take n out) → IsSend v
    → AreSends (take (n + 1) (set out n v))
fits_more out n v room fits is =
    subst AreSends (sym (take_more_set out n v room))
    (AreSends-append (take n out) (v ∷ []) fits (is, tt))

-- what stands behind it stays
pub behind_more : (out was : List ℤ) (n : ℕ) (v : ℤ) → drop n out ≡ drop n was
    → drop (n + 1) (set out n v) ≡ drop (n + 1) was
behind_more out was n v behind =
    drop-set-lt (n + 1) out n v (omega arith) ∙ drop_more_same out was n behind

-- ---- what a state shows

-- the same samples behind both are shown too
shows_behind : (m : ℕ) (xs ys block : List ℤ)
    → ((j : ℕ) → j < m → back xs j ≡ back ys j)
    → (j : ℕ) → j < m + length block → back (xs ++ block) j ≡ back (ys ++ block) j
shows_behind m xs ys block same j less = by (nat_lt j (length block)) refl
  where
    long : length (reverse block) ≡ length block
    long = length-reverse block

    apart : (zs : List ℤ) → back (zs ++ block) j ≡ get_or (reverse block ++ reverse zs) j (pos 0)
    apart zs = ap (λ rs. get_or rs j (pos 0)) (reverse-append zs block)

    by : (b : Bool) → nat_lt j (length block) ≡ b → back (xs ++ block) j ≡ back (ys ++ block) j
    by true e =
        let inside : j < length block = ltb-true j (length block) e in
        let within : j < length (reverse block) = omega (arith, long, inside) in
        apart xs
        ∙ (get_or_append_left (reverse block) (reverse xs) (pos 0) j within
        ∙ (sym (get_or_append_left (reverse block) (reverse ys) (pos 0) j within)
        ∙ sym (apart ys)))
    by false e =
        let past : length block ≤ j = ltb-false j (length block) e in
        apart xs
        ∙ (get_or-append_right (reverse block) (reverse xs) (length block) j (pos 0) long past
        ∙ (same (j - length block) (omega (arith, past, less))
        ∙ (sym (get_or-append_right (reverse block) (reverse ys) (length block) j (pos 0) long past)
        ∙ sym (apart ys))))

-- an output of a filter that weighs nothing that it put
last_output : (taps : List ℤ) (form : Form) (before block : List ℤ) (n : ℕ) → form.again ≡ 0
    → n < length block → output_in_block taps form before block n ≡ with_single form.single
    (shifted_down (summed (back (before ++ take (n + 1) block)) taps form) form.shift)
last_output taps form before block n none less =
    let more = one_more before block n (pos 0) less in
    ap (λ l. output_after taps form l) (sym more)
    ∙ (alone-after taps form (before ++ take n block) (get_or block n (pos 0)) none
    ∙ ap (λ l. with_single form.single (shifted_down (summed (back l) taps form) form.shift)) more)

-- the output behind a state is the one behind the samples that it shows
output_same : (taps : List ℤ) (form : Form) (state before block : List ℤ) (n : ℕ)
    → form.again ≡ 0 → length state + 1 ≡ reach taps form → ShowsLast state before → n < length block
    → output_in_block taps form state block n ≡ output_in_block taps form before block n
output_same taps form state before block n none long shows less =
    let some : length (take (n + 1) block) ≡ n + 1 =
    length-take-le (n + 1) block (omega (arith, less)) in
    last_output taps form state block n none less
    ∙ (ap (λ z. with_single form.single (shifted_down (z +ℤ form.plus) form.shift))
    (weighted-same _ _ taps
    (λ j lt. shows_behind (length state) state before (take (n + 1) block) shows (form.delay + j)
    (omega (arith, some, long, lt, none))))
    ∙ sym (last_output taps form before block n none less))

-- so are the first ones
outputs_same : (taps : List ℤ) (form : Form) (state before block : List ℤ) (n : ℕ)
    → form.again ≡ 0 → length state + 1 ≡ reach taps form → ShowsLast state before → n ≤ length block
    → first_outputs taps form state block n ≡ first_outputs taps form before block n
outputs_same taps form state before block n none long shows few =
    map-same (output_in_block taps form state block) (output_in_block taps form before block) 0 n
    (λ k less. output_same taps form state before block k none long shows (omega (arith, few, less)))

-- the last of these samples show all of them
drop_shows : (samples : List ℤ) (n j : ℕ) → n + j < length samples
    → back (drop n samples) j ≡ back samples j
drop_shows samples n j less =
    let short : length (drop n samples) ≡ length samples - n = length-drop n samples in
    let place : n + (length (drop n samples) - 1 - j) ≡ length samples - 1 - j =
    omega (arith, short, less) in
    get_or-reverse (drop n samples) j (pos 0) (omega (arith, short, less))
    ∙ (get_or-drop n samples (length (drop n samples) - 1 - j) (pos 0)
    ∙ (ap (λ k. get_or samples k (pos 0)) place
    ∙ sym (get_or-reverse samples j (pos 0) (omega (arith, less)))))

-- a state that keeps the last samples shows those of the block too
pub keeps_shows : (state before block new : List ℤ) → ShowsLast state before
    → new ≡ drop (length block) (state ++ block) → ShowsLast new (before ++ block)
keeps_shows state before block new shows is j less =
    let all : length (state ++ block) ≡ length state + length block = length-append state block in
    let short : length new ≡ length (state ++ block) - length block =
    ap length is ∙ length-drop (length block) (state ++ block) in
    ap (λ xs. back xs j) is
    ∙ (drop_shows (state ++ block) (length block) j (omega (arith, all, short, less))
    ∙ shows_behind (length state) state before block shows j (omega (arith, all, short, less)))

-- ---- a block behind a state

-- a block as long as the state takes its place
pub drop_past : (state block : List ℤ) → length state ≤ length block
    → drop (length block - length state) block ≡ drop (length block) (state ++ block)
drop_past state block le =
    let whole : length state + (length block - length state) ≡ length block = omega (arith, le) in
    sym (ap (λ n. drop n (state ++ block)) (sym whole)
    ∙ drop-append-add state block (length block - length state))

-- what a filter with these taps gives behind a state are the outputs behind what the state shows
outputs_are : (taps other : List ℤ) (form moved : Form) (state before block : List ℤ) (n : ℕ)
    → other ≡ taps → moved ≡ form → form.again ≡ 0 → length state + 1 ≡ reach taps form → ShowsLast state before
    → n ≤ length block
    → first_outputs other moved state block n ≡ first_outputs taps form before block n
outputs_are taps other form moved state before block n same unmoved none long shows few =
    ap (λ ts. first_outputs ts moved state block n) same
    ∙ (ap (λ k. first_outputs taps k state block n) unmoved
    ∙ outputs_same taps form state before block n none long shows few)

-- an output behind the state that is out of range is so behind what the state shows
too_big_is : (taps other : List ℤ) (form moved : Form) (state before block : List ℤ) (n : ℕ)
    → other ≡ taps → moved ≡ form → form.again ≡ 0 → length state + 1 ≡ reach taps form → ShowsLast state before
    → n < length block → ¬ (IsSend (output_in_block other moved state block n))
    → ¬ (IsSend (output_in_block taps form before block n))
too_big_is taps other form moved state before block n same unmoved none long shows less big is =
    big (subst IsSend (sym (ap (λ ts. output_in_block ts moved state block n) same
    ∙ (ap (λ k. output_in_block taps k state block n) unmoved
    ∙ output_same taps form state before block n none long shows less))) is)

-- ---- a filter that has taken the samples of a state

module _ (taps : List ℤ) (form : Form) (state block old new : List ℤ) (count : ℕ) (fir : FirState)
    (of_filter : AreOfFilter taps form state) (same : fir.taps ≡ taps)
    (unmoved : fir.form ≡ form) (stands : StandsFor fir state) (room : length block ≤ length old)
    (few : count ≤ length block)
    (written : (before : List ℤ) → StandsFor fir before
    → take count new ≡ first_outputs fir.taps fir.form before block count)
    (fits : (before : List ℤ) → StandsFor fir before → AreSends (take count new))
    (behind : drop count new ≡ drop count old)
  where
    -- what it wrote of a block is what the definition gives
    filters_are : Filters taps form state block old new count
    filters_are = record {
      of_filter = of_filter;
      room = room;
      written = λ before shows. written state stands
          ∙ outputs_are taps fir.taps form fir.form state before block count same unmoved
          of_filter.alone of_filter.long shows few;
      fits = fits state stands;
      behind = behind;
    }

    -- and where it met a value out of range, it was the first
    pub filters_to : count < length block
        → ((before : List ℤ) → StandsFor fir before → count < length block
        → ¬ (IsSend (output_in_block fir.taps fir.form before block count)))
        → FiltersTo taps form state block old new count
    filters_to less too_big = record {
      filters = filters_are;
      less = less;
      too_big = λ before shows. too_big_is taps fir.taps form fir.form state before block count
          same unmoved of_filter.alone of_filter.long shows less (too_big state stands less);
    }

    -- and where it wrote all, a state that keeps the last samples goes on behind it
    pub filters_all : (kept : List ℤ) → count ≡ length block
        → kept ≡ drop (length block) (state ++ block)
        → FiltersAll taps form state kept block old new count
    filters_all kept all is = record {
      filters = subst (Filters taps form state block old new) all filters_are;
      shows = λ before shows. keeps_shows state before block kept shows is;
      long = omega (
        arith,
        ap length is,
        length-drop (length block) (state ++ block),
        length-append state block,
      );
      done_is = all;
    }
