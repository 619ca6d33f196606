-- Samples that a filter takes one after the other, and the outputs at them.
use Rattle.std.proofs.Common.{◌≡◌, ◌≢◌, ℕ, ◌+◌, ◌-◌, ◌<◌, ◌≤◌, List, [], ◌∷◌, ◌++◌, length, take, drop, get_or, ℤ, pos, true, false, Ok, Err, refl, sym, ap, subst, ◌∙◌, append-nil, append_assoc, arith}
use Rattle.std.specs.Prelude.{not}
use Rattle.std.proofs.lemmas.List.{length_push, length-append, length-take-le, take_all, take_more, take-append-drop, take-append-le}
use Rattle.std.proofs.Math.Seq.{take-append-add}
use Rattle.stream_filters.specs.Filter.{FirState, StandsFor, output_after, outputs_of_block}
use Rattle.stream_filters.specs.FilterFields.{HasStepped}
use Rattle.stream_filters.specs.Range.{before_out_of_range, ranged}
use Rattle.stream_filters.proofs.Before.{before-all, before-cons, before-few, before-some}
use Rattle.stream_filters.proofs.Made.{ranged-err, ranged-ok}
use Rattle.stream_filters.proofs.Outputs.{length-outputs_of_block, outputs_of_block-append, outputs_of_block-one}
use Rattle.stream_filters.specs.declared.fault.TooBigValue.{TooBigValue}

pub HasStepped-none : (fir : FirState) (made : List ℤ) → HasStepped fir fir [] made made
HasStepped-none fir made = record {
  made = λ taken has. sym (append-nil made);
  stands = λ taken has. subst (StandsFor fir)
      (sym (ap (λ l. taken ++ l) (take_all (length made - length made + 1) [] (omega arith))
      ∙ append-nil taken)) has;
  few = omega arith;
  taps = refl;
  form = refl;
}

-- steps, and more behind them
pub HasStepped-then : (old between new : FirState) (xs ys first middle last : List ℤ)
    → HasStepped old between xs first middle → length middle ≡ length first + length xs
    → HasStepped between new ys middle last → HasStepped old new (xs ++ ys) first last
HasStepped-then old between new xs ys first middle last so_far all more = record {
  made = λ taken has.
      let zs = outputs_of_block old.taps old.form taken xs in
      let ws = outputs_of_block old.taps old.form (taken ++ xs) ys in
      let many : length zs ≡ length xs = length-outputs_of_block old.taps old.form taken xs in
      let here = so_far.made taken has in
      let count : length middle ≡ length first + length (before_out_of_range zs) =
      ap length here ∙ length-append first (before_out_of_range zs) in
      let stands = all_taken taken has in
      let same : outputs_of_block between.taps between.form (taken ++ xs) ys ≡ ws =
      ap (λ t. outputs_of_block t between.form (taken ++ xs) ys) so_far.taps
      ∙ ap (λ f. outputs_of_block old.taps f (taken ++ xs) ys) so_far.form in
      more.made (taken ++ xs) stands
      ∙ (ap (λ l. middle ++ before_out_of_range l) same
      ∙ (ap (λ l. l ++ before_out_of_range ws) here
      ∙ (append_assoc first (before_out_of_range zs) (before_out_of_range ws)
      ∙ (ap (λ l. first ++ l) (sym (before-all zs ws (omega arith)))
      ∙ ap (λ l. first ++ before_out_of_range l)
      (sym (outputs_of_block-append old.taps old.form taken xs ys))))));
  stands = λ taken has.
      let stands = all_taken taken has in
      let grows = ap length (more.made (taken ++ xs) stands)
      ∙ length-append middle (before_out_of_range
      (outputs_of_block between.taps between.form (taken ++ xs) ys)) in
      let count : length last - length first + 1 ≡ length xs + (length last - length middle + 1) =
      omega (arith, grows) in
      subst (StandsFor new)
      (append_assoc taken xs (take (length last - length middle + 1) ys)
      ∙ (ap (λ l. taken ++ l) (sym (take-append-add xs ys (length last - length middle + 1)))
      ∙ ap (λ n. taken ++ take n (xs ++ ys)) (sym count)))
      (more.stands (taken ++ xs) stands);
  few = let few = more.few in omega (arith, length-append xs ys);
  taps = more.taps ∙ so_far.taps;
  form = more.form ∙ so_far.form;
}
  where
    all_taken : (taken : List ℤ) → StandsFor old taken → StandsFor between (taken ++ xs)
    all_taken taken has = subst (λ l. StandsFor between (taken ++ l))
        (take_all (length middle - length first + 1) xs (omega arith)) (so_far.stands taken has)

-- steps that ended with an output out of range: what comes behind is not taken
pub HasStepped-stop : (old new : FirState) (xs ys first last : List ℤ)
    → HasStepped old new xs first last → length last ≢ length first + length xs
    → HasStepped old new (xs ++ ys) first last
HasStepped-stop old new xs ys first last so_far less = record {
  made = λ taken has.
      let zs = outputs_of_block old.taps old.form taken xs in
      let ws = outputs_of_block old.taps old.form (taken ++ xs) ys in
      let here = so_far.made taken has in
      here ∙ (ap (λ l. first ++ l) (sym (before-some zs ws (other taken has)))
      ∙ ap (λ l. first ++ before_out_of_range l) (sym (outputs_of_block-append old.taps old.form taken xs ys)));
  stands = λ taken has.
      subst (λ l. StandsFor new (taken ++ l))
      (sym (take-append-le (length last - length first + 1) xs ys (few taken has)))
      (so_far.stands taken has);
  few = let so_few = so_far.few in omega (arith, length-append xs ys);
  taps = so_far.taps;
  form = so_far.form;
}
  where
    counted : (taken : List ℤ) → StandsFor old taken → length last
        ≡ length first + length (before_out_of_range (outputs_of_block old.taps old.form taken xs))
    counted taken has = ap length (so_far.made taken has) ∙ length-append first _

    other : (taken : List ℤ) → StandsFor old taken
        → length (before_out_of_range (outputs_of_block old.taps old.form taken xs))
        ≢ length (outputs_of_block old.taps old.form taken xs)
    other taken has e =
        less (counted taken has ∙ ap (λ n. length first + n)
        (e ∙ length-outputs_of_block old.taps old.form taken xs))

    few : (taken : List ℤ) → StandsFor old taken → length last - length first + 1 ≤ length xs
    few taken has =
        let zs = outputs_of_block old.taps old.form taken xs in
        let count : length last ≡ length first + length (before_out_of_range zs) =
        ap length (so_far.made taken has) ∙ length-append first (before_out_of_range zs) in
        let many : length zs ≡ length xs = length-outputs_of_block old.taps old.form taken xs in
        let le = before-few zs in
        let differ : length (before_out_of_range zs) ≢ length zs =
        λ e. less (count ∙ ap (λ n. length first + n) (e ∙ many)) in
        omega (arith, differ)

-- one step, whose answer is in range
HasStepped-one : (old new : FirState) (x y : ℤ) (made : List ℤ)
    → ((taken : List ℤ) → StandsFor old taken
    → Ok y ≡ ranged (output_after old.taps old.form (taken ++ x ∷ [])))
    → ((taken : List ℤ) → StandsFor old taken → StandsFor new (taken ++ x ∷ []))
    → new.taps ≡ old.taps → new.form ≡ old.form
    → HasStepped old new (x ∷ []) made (made ++ y ∷ [])
HasStepped-one old new x y made answer stands taps form = record {
  made = λ taken has.
      let z = output_after old.taps old.form (taken ++ x ∷ []) in
      let told = ranged-ok z y (sym (answer taken has)) in
      ap (λ v. made ++ v ∷ []) (sym told.0)
      ∙ (ap (λ l. made ++ l) (sym (before-cons z [] true (ap not told.1)))
      ∙ ap (λ l. made ++ before_out_of_range l) (sym (outputs_of_block-one old.taps old.form taken x)));
  stands = λ taken has.
      subst (λ l. StandsFor new (taken ++ l))
      (sym (take_all (length (made ++ y ∷ []) - length made + 1) (x ∷ []) (omega arith)))
      (stands taken has);
  few = omega (arith, length_push made y);
  taps = taps;
  form = form;
}

-- one step, whose answer is not
HasStepped-over : (old new : FirState) (x : ℤ) (made : List ℤ) (fault : TooBigValue)
    → ((taken : List ℤ) → StandsFor old taken
    → Err fault ≡ ranged (output_after old.taps old.form (taken ++ x ∷ [])))
    → ((taken : List ℤ) → StandsFor old taken → StandsFor new (taken ++ x ∷ []))
    → new.taps ≡ old.taps → new.form ≡ old.form
    → HasStepped old new (x ∷ []) made made
HasStepped-over old new x made fault answer stands taps form = record {
  made = λ taken has.
      let z = output_after old.taps old.form (taken ++ x ∷ []) in
      let told = ranged-err z fault (sym (answer taken has)) in
      sym (append-nil made)
      ∙ (ap (λ l. made ++ l) (sym (before-cons z [] false (ap not told)))
      ∙ ap (λ l. made ++ before_out_of_range l) (sym (outputs_of_block-one old.taps old.form taken x)));
  stands = λ taken has.
      subst (λ l. StandsFor new (taken ++ l))
      (sym (take_all (length made - length made + 1) (x ∷ []) (omega arith)))
      (stands taken has);
  few = omega arith;
  taps = taps;
  form = form;
}

module _ (old between new : FirState) (samples first middle : List ℤ) (i : ℕ)
    (below : i < length samples) (so_far : HasStepped old between (take i samples) first middle)
    (all : length middle ≡ length first + i)
    (stands : (taken : List ℤ) → StandsFor between taken
    → StandsFor new (taken ++ get_or samples i (pos 0) ∷ []))
    (taps : new.taps ≡ between.taps) (form : new.form ≡ between.form)
  where
    many : length (take i samples) ≡ i
    many = length-take-le i samples (omega arith)

    -- after i steps one more
    pub HasStepped-more : (y : ℤ) → ((taken : List ℤ) → StandsFor between taken
        → Ok y ≡ ranged (output_after between.taps between.form
        (taken ++ get_or samples i (pos 0) ∷ [])))
        → HasStepped old new (take (i + 1) samples) first (middle ++ y ∷ [])
    HasStepped-more y answer =
        subst (λ l. HasStepped old new l first (middle ++ y ∷ [])) (sym (take_more samples i (pos 0) below))
        (HasStepped-then old between new (take i samples) (get_or samples i (pos 0) ∷ []) first middle
        (middle ++ y ∷ []) so_far (all ∙ ap (λ n. length first + n) (sym many))
        (HasStepped-one between new (get_or samples i (pos 0)) y middle answer stands taps form))

    -- after i steps the last one
    pub HasStepped-ended : (fault : TooBigValue) → ((taken : List ℤ) → StandsFor between taken
        → Err fault ≡ ranged (output_after between.taps between.form
        (taken ++ get_or samples i (pos 0) ∷ [])))
        → HasStepped old new samples first middle
    HasStepped-ended fault answer =
        let xs = take i samples ++ get_or samples i (pos 0) ∷ [] in
        let whole : xs ++ drop (i + 1) samples ≡ samples =
        ap (λ l. l ++ drop (i + 1) samples) (sym (take_more samples i (pos 0) below))
        ∙ take-append-drop (i + 1) samples in
        let long : length xs ≡ i + 1 = length_push (take i samples) (get_or samples i (pos 0))
        ∙ (omega (arith, many)) in
        subst (λ l. HasStepped old new l first middle) whole
        (HasStepped-stop old new xs (drop (i + 1) samples) first middle
        (HasStepped-then old between new (take i samples) (get_or samples i (pos 0) ∷ []) first middle
        middle so_far (all ∙ ap (λ n. length first + n) (sym many))
        (HasStepped-over between new (get_or samples i (pos 0)) middle fault answer stands taps form))
        (λ e. let no : length middle ≡ length first + (i + 1)
        = e ∙ ap (λ n. length first + n) long in omega (arith, all)))
