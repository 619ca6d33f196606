-- Filters by their weigher, and what they put.
use Rattle.std.proofs.Common.{◌≡◌, ℕ, ◌+◌, ◌-◌, ◌*◌, ◌^◌, ◌<◌, ◌≤◌, List, [], ◌∷◌, ◌++◌, length, take, drop, reverse, ℤ, pos, ◌+ℤ◌, refl, sym, ap, subst, ◌∙◌, append-nil, arith}
use Rattle.std.specs.Prelude.{Bool, true, false, Err, Ok, Result, nat_le, not, unsigned_abs, if◌then◌else◌}
use Rattle.std.specs.Result.{result_unwrap_or}
use Rattle.std.specs.List.{All}
use Rattle.std.proofs.Math.Seq.{drop-append_seam}
use Rattle.std.proofs.lemmas.List.{get_or-drop, get_or-take, length-append, length-drop, length-take, length-take-le, take_all, take-append-le}
use Rattle.std.proofs.lemmas.List.Sums.{sum_by-le}
use Rattle.stream_filters.specs.declared.fir.TheConstants.{TAP_MAX}
use Rattle.stream_filters.specs.declared.form.Form.{Form}
use Rattle.stream_filters.specs.Filter.{AreTaps, FirState, IsPlainForm, StandsFor, after_sample, at_place, back, output_after, output_of, outputs_of_block, put_of, puts_of, reach, shifted_down, summed, taps_again, taps_ahead, weight, weighted, with_put, with_sample, with_single}
use Rattle.stream_filters.specs.FilterFields.{HasStepped}
use Rattle.stream_filters.specs.Range.{before_out_of_range, ranged}
use Rattle.stream_filters.specs.declared.fault.TooBigValue.{TooBigValue}
use Rattle.stream_filters.specs.WeigherFields.{HasWeighed, window_of}
use Rattle.stream_filters.specs.Weighing.{AreAhead, ShowsSamples, WeigherState, after_weighed, span, weighed_behind}
use Rattle.stream_filters.proofs.Lines.{window_of-shows}
use Rattle.stream_filters.proofs.Outputs.{output_after-push, plain-behind, plain-seen, puts_of-push}
use Rattle.stream_filters.proofs.Weighted.{weighted-same}
use Rattle.stream_filters.proofs.Windows.{shows-push}

-- ---- taps

-- what holds of each value holds of each of the last ones
All-drop : (P : ℤ → Type 0) (n : ℕ) (xs : List ℤ) → All P xs → All P (drop n xs)
All-drop P n xs all k d lt =
    rw (get_or-drop n xs k d) (all (n + k) d (omega (arith, length-drop n xs)))

All-take : (P : ℤ → Type 0) (n : ℕ) (xs : List ℤ) → All P xs → All P (take n xs)
All-take P n xs all k d lt =
    rw (get_or-take n xs k d (omega (arith, length-take n xs)))
    (all k d (omega (arith, length-take n xs)))

pub length-again : (taps : List ℤ) (form : Form) → AreTaps taps form
    → length (taps_again taps form) ≡ form.again
length-again taps form are =
    let some = are.some in
    length-drop (length taps - form.again) taps ∙ (omega (arith, some))

pub length-ahead : (taps : List ℤ) (form : Form) → length (taps_ahead taps form) ≡ length taps - form.again
length-ahead taps form = length-take-le (length taps - form.again) taps (omega arith)

-- the taps behind some are all that are left
pub rest : (taps : List ℤ) (k : ℕ) → take (length taps - k) (drop k taps) ≡ drop k taps
rest taps k = take_all (length taps - k) (drop k taps) (omega (arith, length-drop k taps))

-- the taps for samples are ones
pub AreAhead-taps : (taps : List ℤ) (form : Form) → AreTaps taps form
    → AreAhead (taps_ahead taps form) form
AreAhead-taps taps form are =
    let long = length-ahead taps form in
    let some = are.some in
    let few = are.few in
    record {
      some = omega (arith, long);
      few = omega (arith, long);
      small = All-take (λ tap. unsigned_abs tap ≤ TAP_MAX) (length taps - form.again) taps are.small;
      shift_small = are.shift_small;
      plus_small = are.plus_small;
      delay_small = are.delay_small;
    }

-- the taps for what was put weigh little
pub again-light : (taps : List ℤ) (form : Form) → AreTaps taps form
    → weight (taps_again taps form) ≤ 2 ^ 41
again-light taps form are =
    let all : weight (taps_again taps form) ≤ length (taps_again taps form) * 2147483647 =
    sum_by-le unsigned_abs 2147483647 (taps_again taps form)
    (All-drop (λ tap. unsigned_abs tap ≤ TAP_MAX) (length taps - form.again) taps are.small) in
    let few : form.again ≤ 64 = are.again_few in
    omega (arith, length-again taps form are)

-- taps in two lists
module _ (ahead again : List ℤ) (form : Form) (many : length again ≡ form.again) where
  pub joined-many : length (ahead ++ again) - form.again ≡ length ahead
  joined-many = omega (arith, length-append ahead again)

  pub joined-ahead : taps_ahead (ahead ++ again) form ≡ ahead
  joined-ahead =
      ap (λ n. take n (ahead ++ again)) joined-many
      ∙ (take-append-le (length ahead) ahead again (omega arith)
      ∙ take_all (length ahead) ahead (omega arith))

  pub joined-again : taps_again (ahead ++ again) form ≡ again
  joined-again =
      ap (λ n. drop n (ahead ++ again)) joined-many ∙ drop-append_seam ahead again

  pub joined-reach : reach (ahead ++ again) form ≡ span ahead form
  joined-reach = ap (λ n. form.delay + n) joined-many

no_items : (xs : List ℤ) → length xs ≡ 0 → xs ≡ []
no_items [] e = refl
no_items (x ∷ xs) e = absurd (omega arith)

-- ---- filters by their fields

-- the filter with this weigher, these taps for what it put, and what it put in this line
abbrev pub fir_with : WeigherState → List ℤ → List ℤ → FirState
fir_with weigher again puts = record {
  taps = weigher.taps ++ again;
  form = weigher.form;
  window = weigher.window;
  puts = window_of weigher.form.again puts;
}

-- what it comes to
pub output_of-fields : (weigher : WeigherState) (again puts : List ℤ)
    → length again ≡ weigher.form.again
    → output_of (fir_with weigher again puts)
    ≡ with_single weigher.form.single (shifted_down (summed (at_place weigher.window) weigher.taps
    weigher.form +ℤ weighted (back puts) again) weigher.form.shift)
output_of-fields weigher again puts many =
    let form = weigher.form in
    let shown = window_of form.again puts in
    let sum = summed (at_place weigher.window) weigher.taps form in
    ap (λ l. with_single form.single (shifted_down (summed (at_place weigher.window) l form
    +ℤ weighted (at_place shown) (taps_again (weigher.taps ++ again) form)) form.shift))
    (joined-ahead weigher.taps again form many)
    ∙ (ap (λ l. with_single form.single (shifted_down (sum +ℤ weighted (at_place shown) l) form.shift))
    (joined-again weigher.taps again form many)
    ∙ ap (λ z. with_single form.single (shifted_down (sum +ℤ z) form.shift))
    (weighted-same _ _ again (λ j lt. window_of-shows form.again puts j (omega (arith, many)))))

-- a plain one comes to what its weigher does
pub output_of-plain : (weigher : WeigherState) (again puts : List ℤ)
    → length again ≡ weigher.form.again → IsPlainForm weigher.form
    → output_of (fir_with weigher again puts)
    ≡ shifted_down (summed (at_place weigher.window) weigher.taps weigher.form) weigher.form.shift
output_of-plain weigher again puts many plain =
    let form = weigher.form in
    plain-seen (weigher.taps ++ again) form (at_place weigher.window)
    (at_place (window_of form.again puts)) plain
    ∙ ap (λ l. shifted_down (summed (at_place weigher.window) l form) form.shift)
    (ap (λ l. weigher.taps ++ l) (no_items again (many ∙ plain.again_none))
    ∙ append-nil weigher.taps)

-- ---- what is put

by_value : (b : Bool) (z : ℤ) (r : Result ℤ TooBigValue)
    → r ≡ (if b then Ok z else Err (record {}))
    → result_unwrap_or r (pos 0) ≡ (if not b then pos 0 else z)
by_value true z r is = ap (λ r. result_unwrap_or r (pos 0)) is
by_value false z r is = ap (λ r. result_unwrap_or r (pos 0)) is

-- the value of an answer, and 0 where there is none
pub put_value : (z : ℤ) (r : Result ℤ TooBigValue) → r ≡ ranged z
    → result_unwrap_or r (pos 0) ≡ put_of z
put_value z r is = by_value (nat_le (unsigned_abs z) 9223372036854775807) z r is

-- ---- one sample more

-- what a filter comes to with it
pub output_of-sample : (fir : FirState) (samples : List ℤ) (x : ℤ) → StandsFor fir samples
    → length (taps_again fir.taps fir.form) ≡ fir.form.again
    → output_of (with_sample fir x) ≡ output_after fir.taps fir.form (samples ++ x ∷ [])
output_of-sample fir samples x stands many =
    let taps = fir.taps in
    let form = fir.form in
    let n = reach taps form in
    let window = take n (x ∷ fir.window) in
    let next = samples ++ x ∷ [] in
    let long = length-ahead taps form in
    let seen : summed (at_place window) (taps_ahead taps form) form
    ≡ summed (back next) (taps_ahead taps form) form =
    ap (λ z. z +ℤ form.plus) (weighted-same _ _ (taps_ahead taps form) (λ j lt.
    let below : form.delay + j < n = omega (arith, long) in
    get_or-take n (x ∷ fir.window) (form.delay + j) (pos 0) below
    ∙ shows-push n fir.window samples x stands.shows (form.delay + j) below)) in
    ap (λ z. with_single form.single (shifted_down (z
    +ℤ weighted (at_place fir.puts) (taps_again taps form)) form.shift)) seen
    ∙ (ap (λ z. with_single form.single (shifted_down (summed (back next) (taps_ahead taps form) form
    +ℤ z) form.shift)) (weighted-same _ _ (taps_again taps form) (λ j lt.
    stands.puts j (omega (arith, many))))
    ∙ sym (output_after-push taps form samples x))

pub StandsFor-sample : (fir : FirState) (samples : List ℤ) (x : ℤ) → StandsFor fir samples
    → length (taps_again fir.taps fir.form) ≡ fir.form.again
    → StandsFor (after_sample fir x) (samples ++ x ∷ [])
StandsFor-sample fir samples x stands many =
    let taps = fir.taps in
    let form = fir.form in
    let n = reach taps form in
    let y = put_of (output_after taps form (samples ++ x ∷ [])) in
    let put : put_of (output_of (with_sample fir x)) ≡ y =
    ap put_of (output_of-sample fir samples x stands many) in
    record {
      shows = λ j lt. get_or-take n (x ∷ fir.window) j (pos 0) lt
          ∙ shows-push n fir.window samples x stands.shows j lt;
      puts = λ j lt. get_or-take form.again (put_of (output_of (with_sample fir x)) ∷ fir.puts) j (pos 0) lt
          ∙ (ap (λ z. at_place (z ∷ fir.puts) j) put
          ∙ (shows-push form.again fir.puts (puts_of taps form samples) y stands.puts j lt
          ∙ ap (λ l. back l j) (sym (puts_of-push taps form samples x))));
    }

-- a filter whose weigher took it
pub with_sample-fields : (weigher new : WeigherState) (again puts : List ℤ) (x : ℤ)
    → length again ≡ weigher.form.again → new ≡ after_weighed weigher x
    → fir_with new again puts ≡ with_sample (fir_with weigher again puts) x
with_sample-fields weigher new again puts x many is =
    ap (λ w. fir_with w again puts) is
    ∙ ap (λ n. record (fir_with weigher again puts) { window = take n (x ∷ weigher.window) })
    (sym (joined-reach weigher.taps again weigher.form many))

-- one that weighs nothing that it put keeps none of it
pub with_put-none : (weigher : WeigherState) (again puts : List ℤ) (y : ℤ)
    → weigher.form.again ≡ 0
    → fir_with weigher again puts ≡ with_put (fir_with weigher again puts) y
with_put-none weigher again puts y gone =
    ap (λ l. record (fir_with weigher again puts) { puts = l })
    (ap (λ n. take n (reverse puts)) gone
    ∙ ap (λ n. take n (y ∷ window_of weigher.form.again puts)) (sym gone))

-- ---- plain filters

module _ (weigher : WeigherState) (again : List ℤ) (many : length again ≡ weigher.form.again)
    (plain : IsPlainForm weigher.form)
  where
    none : again ≡ []
    none = no_items again (many ∙ plain.again_none)

    -- their windows show what those of the weigher do
    pub StandsFor-shows : (puts samples : List ℤ) → ShowsSamples weigher samples
        → StandsFor (fir_with weigher again puts) samples
    StandsFor-shows puts samples has = record {
      shows = λ j lt. has.shows j (subst (λ n. j < n) (joined-reach weigher.taps again weigher.form many) lt);
      puts = λ j lt. let zero = plain.again_none in absurd (omega (arith, lt));
    }

    pub Shows-stands : (puts samples : List ℤ) → StandsFor (fir_with weigher again puts) samples
        → ShowsSamples weigher samples
    Shows-stands puts samples stands = record {
      shows = λ j lt. stands.shows j
          (subst (λ n. j < n) (sym (joined-reach weigher.taps again weigher.form many)) lt);
    }

    pub plain-block : (taken xs : List ℤ)
        → outputs_of_block (weigher.taps ++ again) weigher.form taken xs
        ≡ weighed_behind weigher.taps weigher.form taken xs
    plain-block taken xs =
        plain-behind (weigher.taps ++ again) weigher.form taken
        (puts_of (weigher.taps ++ again) weigher.form taken) xs plain
        ∙ ap (λ l. weighed_behind l weigher.form taken xs)
        (ap (λ l. weigher.taps ++ l) none ∙ append-nil weigher.taps)

-- what their weigher did at once
pub HasStepped-weighed : (old new : WeigherState) (again puts xs before after : List ℤ)
    → length again ≡ old.form.again → IsPlainForm old.form → HasWeighed old new xs before after
    → HasStepped (fir_with old again puts) (fir_with new again puts) xs before after
HasStepped-weighed old new again puts xs before after many plain weighed = record {
  made = λ taken stands.
      weighed.made taken (Shows-stands old again many plain puts taken stands)
      ∙ ap (λ l. before ++ before_out_of_range l) (sym (plain-block old again many plain taken xs));
  stands = λ taken stands.
      subst (λ l. StandsFor (fir_with new again puts) (taken ++ l))
      (sym (take_all (length after - length before + 1) xs (omega (arith, weighed.all))))
      (StandsFor-shows new again many_new plain_new puts (taken ++ xs)
      (weighed.shows taken (Shows-stands old again many plain puts taken stands)));
  few = omega (arith, weighed.all);
  taps = ap (λ l. l ++ again) weighed.taps;
  form = weighed.form;
}
  where
    many_new : length again ≡ new.form.again
    many_new = many ∙ ap (λ form. form.again) (sym weighed.form)

    plain_new : IsPlainForm new.form
    plain_new = subst IsPlainForm (sym weighed.form) plain
