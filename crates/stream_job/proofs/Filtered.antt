-- What a filter makes of some numbers, and of more behind them.
use Rattle.std.proofs.Common.{◌≡◌, ◌≢◌, ◌⊎◌, inl, inr, ℕ, zero, suc, ◌+◌, ◌-◌, ◌≤◌, Bool, true, false, ℤ, List, [], ◌∷◌, ◌++◌, length, map, refl, sym, ap, subst, ◌∙◌, arith, append_assoc, append-nil, get_or, ltb-false, ltb-true, nat_lt, ◌<◌}
use Rattle.std.specs.Prelude.{Ok, Err, Option, Result, drop, nat_le, not, take, unsigned_abs, if◌then◌else◌}
use Rattle.std.proofs.lemmas.List.{length-take, map-append, take-take, take_all}
use Rattle.std.proofs.Math.Seq.{take-add}
use Rattle.graph_base.specs.Graphs.{Task}
use Rattle.stream_filters.specs.declared.fault.TooBigValue.{TooBigValue}
use Rattle.stream_filters.specs.declared.form.Form.{Form}
use Rattle.stream_filters.specs.Filter.{FirState, output_after, puts_of}
use Rattle.stream_filters.specs.Range.{before_out_of_range, is_out_of_range, ranged}
use Rattle.stream_filters.proofs.Before.{before-cons, ranged-all}
use Rattle.stream_filters.proofs.Outputs.{behind-take, length-outputs_of_block, outputs_of_block-append, outputs_of_block-one}
use Rattle.graph_runs.specs.Steps.{HasFilter}
use Rattle.graph_runs.specs.TaskPlaces.{outputs_of_block}
use Rattle.phase_accum.specs.declared.outcome.Outcome.{Outcome}
use Rattle.stream_lists.specs.Lists.{number}
use Rattle.stream_job.specs.Filtering.{HasFiltered}
use Rattle.stream_filters.proofs.Made.{ranged-fits}

pub filtered_none : (task : Task) (filter : Option FirState) (made : List (Result ℤ TooBigValue))
    → HasFiltered task [] filter filter made made
filtered_none task filter made = record {
  answers = λ taken has. sym (append-nil made);
  filter = λ taken has. subst (HasFilter task filter) (sym (append-nil taken)) has;
}

-- more numbers behind them
pub filtered_then : (task : Task) (xs ys : List ℤ) (old between new : Option FirState)
    (made some all : List (Result ℤ TooBigValue)) → HasFiltered task xs old between made some
    → HasFiltered task ys between new some all → HasFiltered task (xs ++ ys) old new made all
filtered_then task xs ys old between new made some all first more = record {
  answers = λ taken has.
      let zs = outputs_of_block task.taps task.form taken xs in
      let ws = outputs_of_block task.taps task.form (taken ++ xs) ys in
      more.answers (taken ++ xs) (first.filter taken has)
      ∙ (ap (λ l. l ++ map ranged ws) (first.answers taken has)
      ∙ (append_assoc made (map ranged zs) (map ranged ws)
      ∙ ap (λ l. made ++ l)
      (sym (map-append ranged zs ws)
      ∙ ap (map ranged) (sym (outputs_of_block-append task.taps task.form taken xs ys)))));
  filter = λ taken has.
      subst (HasFilter task new) (append_assoc taken xs ys)
      (more.filter (taken ++ xs) (first.filter taken has));
}

-- one number
pub filtered_one : (task : Task) (x : ℤ) (old new : Option FirState)
    (answer : Result ℤ TooBigValue) (made after : List (Result ℤ TooBigValue))
    → ((taken : List ℤ) → HasFilter task old taken
    → answer ≡ ranged (output_after task.taps task.form (taken ++ x ∷ [])))
    → ((taken : List ℤ) → HasFilter task old taken → HasFilter task new (taken ++ x ∷ []))
    → after ≡ made ++ answer ∷ [] → HasFiltered task (x ∷ []) old new made after
filtered_one task x old new answer made after is next items = record {
  answers = λ taken has. items ∙ (ap (λ r. made ++ r ∷ []) (is taken has)
      ∙ ap (λ l. made ++ map ranged l) (sym (outputs_of_block-one task.taps task.form taken x)));
  filter = next;
}

-- ---- up to the first answer that is out of range

-- a number is in range
abbrev fits : ℤ → Bool
fits z = not (is_out_of_range z)

-- the answer to one that is
abbrev pub good : ℤ → Result ℤ TooBigValue
good z = Ok z

-- the answer to one that is not
abbrev pub out : Result ℤ TooBigValue
out = Err (record {})

-- the range check, by the test that it makes
abbrev checked : Bool → ℤ → Result ℤ TooBigValue
checked b z = if b then Ok z else out

ranged-out : (z : ℤ) → fits z ≡ false → ranged z ≡ out
ranged-out z e = by (nat_le (unsigned_abs z) 9223372036854775807) e
  where
    by : (b : Bool) → not (not b) ≡ false → checked b z ≡ out
    by true f = absurd (let wrong : true ≡ false = f in cc)
    by false f = refl

-- the answers up to the first one out of range
ranged-some : (zs : List ℤ) → length (before_out_of_range zs) ≢ length zs
    → map ranged (take (length (before_out_of_range zs) + 1) zs)
    ≡ map good (before_out_of_range zs) ++ out ∷ []
ranged-some [] less = absurd (less refl)
ranged-some (z ∷ zs) less = by (ranged-some zs) (fits z) refl
  where
    by : (length (before_out_of_range zs) ≢ length zs
        → map ranged (take (length (before_out_of_range zs) + 1) zs)
        ≡ map good (before_out_of_range zs) ++ out ∷ [])
        → (b : Bool) → fits z ≡ b
        → map ranged (take (length (before_out_of_range (z ∷ zs)) + 1) (z ∷ zs))
        ≡ map good (before_out_of_range (z ∷ zs)) ++ out ∷ []
    by rest true f =
        let first = before-cons z zs true f in
        let again = rest (λ e. less (ap length first ∙ ap suc e)) in
        let many = length (before_out_of_range zs) in
        let one : suc (many + 1) ≡ suc many + 1 = omega arith in
        subst (λ l. map ranged (take (length l + 1) (z ∷ zs)) ≡ map good l ++ out ∷ []) (sym first)
        (subst (λ n. map ranged (take n (z ∷ zs)) ≡ map good (z ∷ before_out_of_range zs) ++ out ∷ [])
        one (ap (λ r. r ∷ map ranged (take (many + 1) zs)) (ranged-fits z f)
        ∙ ap (λ l. good z ∷ l) again))
    by rest false f =
        subst (λ l. map ranged (take (length l + 1) (z ∷ zs)) ≡ map good l ++ out ∷ [])
        (sym (before-cons z zs false f)) (ap (λ r. r ∷ []) (ranged-out z f))

-- the outputs of a part of a block are a part of its outputs
outputs-take : (n : ℕ) (taps : List ℤ) (form : Form) (taken ys : List ℤ)
    → outputs_of_block taps form taken (take n ys)
    ≡ take n (outputs_of_block taps form taken ys)
outputs-take n taps form taken ys = behind-take n taps form taken (puts_of taps form taken) ys

-- a filter was given numbers up to the first answer out of range, or all of them where there is none
pub filtered_so : (task : Task) (ys : List ℤ) (old new : Option FirState) (values : List ℤ)
    (made after : List (Result ℤ TooBigValue)) (count : ℕ)
    → ((taken : List ℤ) → HasFilter task old taken
    → values ≡ before_out_of_range (outputs_of_block task.taps task.form taken ys))
    → ((taken : List ℤ) → HasFilter task old taken
    → HasFilter task new (taken ++ take (length values + 1) ys))
    → (length values ≡ length ys) × (count ≡ length ys)
    × (after ≡ made ++ map good values)
    ⊎ (length values ≢ length ys) × (count ≡ length values + 1)
    × (after ≡ (made ++ map good values) ++ out ∷ [])
    → HasFiltered task (take count ys) old new made after
filtered_so task ys old new values made after count outputs next (inl (all, many, items)) =
    let whole : take count ys ≡ ys = take_all count ys (omega arith) in
    let more : take (length values + 1) ys ≡ ys = take_all (length values + 1) ys (omega arith) in
    record {
      answers = λ taken has.
          let zs = outputs_of_block task.taps task.form taken ys in
          let long : length zs ≡ length ys = length-outputs_of_block task.taps task.form taken ys in
          let same = ap length (outputs taken has) in
          items
          ∙ ap (λ l. made ++ map good l) (outputs taken has)
          ∙ ap (λ l. made ++ l) (sym (ranged-all zs (omega arith)))
          ∙ ap (λ l. made ++ map ranged (outputs_of_block task.taps task.form taken l)) (sym whole);
      filter = λ taken has.
          subst (λ l. HasFilter task new (taken ++ l)) (more ∙ sym whole) (next taken has);
    }
filtered_so task ys old new values made after count outputs next (inr (some, many, items)) =
    record {
      answers = λ taken has.
          let zs = outputs_of_block task.taps task.form taken ys in
          let long : length zs ≡ length ys = length-outputs_of_block task.taps task.form taken ys in
          let is = outputs taken has in
          let same : length values ≡ length (before_out_of_range zs) = ap length is in
          let first : count ≡ length (before_out_of_range zs) + 1 = omega arith in
          items
          ∙ append_assoc made (map good values) (out ∷ [])
          ∙ ap (λ l. made ++ (map good l ++ out ∷ [])) is
          ∙ ap (λ l. made ++ l) (sym (ranged-some zs (λ e. some (same ∙ e ∙ long))))
          ∙ ap (λ n. made ++ map ranged (take n zs)) (sym first)
          ∙ ap (λ l. made ++ map ranged l) (sym (outputs-take count task.taps task.form taken ys));
      filter = λ taken has.
          subst (λ n. HasFilter task new (taken ++ take n ys)) (sym many) (next taken has);
    }

-- the numbers of more outcomes, behind those before them
pub numbers_then : (os : List Outcome) (at many : ℕ)
    → map number (take at os) ++ map number (take many (drop at os))
    ≡ map number (take (at + many) os)
numbers_then os at many =
    sym (map-append number (take at os) (take many (drop at os)))
    ∙ ap (map number) (sym (take-add at many os))

-- no more of them come than there are
pub take-few : (many end : ℕ) (os : List Outcome) → many ≤ end
    → take many (take end os) ≡ take many os
take-few many end os le = take-take many end os le

-- ---- one call of the filter

-- a filter was given numbers, and has made these values of those before the first out of range
pub record WasGiven (task : Task) (ys : List ℤ) (old new : Option FirState) (values : List ℤ)
    : Type 0 where
  pub outputs : (taken : List ℤ) → HasFilter task old taken
      → values ≡ before_out_of_range (outputs_of_block task.taps task.form taken ys)
  pub next : (taken : List ℤ) → HasFilter task old taken
      → HasFilter task new (taken ++ take (length values + 1) ys)

pub was_given : (task : Task) (ys : List ℤ) (old new : Option FirState) (start values : List ℤ)
    → start ≡ []
    → ((taken : List ℤ) → HasFilter task old taken → values
    ≡ start ++ before_out_of_range (outputs_of_block task.taps task.form taken ys))
    → ((taken : List ℤ) → HasFilter task old taken
    → HasFilter task new (taken ++ take (length values - length start + 1) ys))
    → WasGiven task ys old new values
was_given task ys old new [] values none made next = record {
  outputs = made;
  next = λ taken has.
      let same : length values - 0 ≡ length values = omega arith in
      subst (λ n. HasFilter task new (taken ++ take (n + 1) ys)) same (next taken has);
}
was_given task ys old new (v ∷ start) values none made next = absurd (cc)

-- no more answers come than there are numbers
pub few_given : (task : Task) (ys : List ℤ) (old new : Option FirState) (values taken : List ℤ)
    → WasGiven task ys old new values → HasFilter task old taken → length values ≤ length ys
few_given task ys old new values taken given has =
    let zs = outputs_of_block task.taps task.form taken ys in
    let long : length zs ≡ length ys = length-outputs_of_block task.taps task.form taken ys in
    let same = ap length (given.outputs taken has) in
    let few : length (before_out_of_range zs) ≤ length zs = length-take-few _ zs in
    omega arith
  where
    length-take-few : (n : ℕ) (xs : List ℤ) → length (take n xs) ≤ length xs
    length-take-few n xs = omega (arith, length-take n xs)

-- what is no more, and not as many, is less
pub less : (a b : ℕ) → a ≤ b → (a ≡ b → ⊥) → a < b
less a b le other = by (nat_lt a b) refl
  where
    by : (t : Bool) → nat_lt a b ≡ t → a < b
    by true e = ltb-true a b e
    by false e =
        let more : b ≤ a = ltb-false a b e in
        absurd (other (omega arith))

-- a list of one
pub one_of : (os : List Outcome) (d : Outcome) → 1 ≤ length os → length os < 2
    → os ≡ get_or os 0 d ∷ []
one_of [] d some few = absurd (omega arith)
one_of (o ∷ []) d some few = refl
one_of (o ∷ p ∷ os) d some few = absurd (omega arith)
