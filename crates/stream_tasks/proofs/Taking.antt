-- What tasks take by their first waits, and what a filter makes of values that it takes one after the
-- other.
use Rattle.std.proofs.Common.{◌≡◌, ◌≢◌, ℕ, zero, suc, nat_eq, true, false, ◌+◌, ◌-◌, ◌≤◌, ℤ, List, [], ◌∷◌, ◌++◌, length, get_or, map, refl, sym, ap, subst, ◌∙◌, arith}
use Rattle.std.specs.Prelude.{Ok, Option, drop, take}
use Rattle.std.proofs.lemmas.List.{append_assoc, append-nil, length-append, length-take, map-append, take_all}
use Rattle.std.proofs.Math.Seq.{take-add}
use Rattle.stream_filters.specs.Filter.{FirState}
use Rattle.stream_filters.specs.Range.{before_out_of_range, ranged}
use Rattle.stream_lists.specs.Lists.{number}
use Rattle.stream_filters.proofs.Before.{ranged-all}
use Rattle.stream_filters.proofs.Outputs.{length-outputs_of_block, outputs_of_block-append}
use Rattle.phase_accum.specs.declared.outcome.Outcome.{Outcome}
use Rattle.graph_base.specs.Graphs.{Task}
use Rattle.graph_base.specs.declared.line.Kind.{Kind}
use Rattle.graph_base.specs.declared.line.Kind.TheVariants.{Source, Fir, Split, Decimate, Join, Peer, Sink}
use Rattle.graph_runs.specs.Moves.{IsBlock}
use Rattle.graph_runs.specs.Steps.{HasFilter}
use Rattle.graph_runs.specs.TaskPlaces as turns
use Rattle.graph_runs.specs.TaskPlaces.{outputs_of_block, owed_after_wait}
use Rattle.graph_runs.specs.declared.owed.Owed.TheVariants.{Nothing}
use Rattle.stream_tasks.specs.Tasks.{owed_by}

-- a filter has taken these values, and made these of them, all in range
pub record MadeSoFar (task : Task) (xs : List ℤ) (old new : Option FirState) (made : List ℤ)
    : Type 0 where
  pub filter : (taken : List ℤ) → HasFilter task old taken → HasFilter task new (taken ++ xs)
  pub made_are : (taken : List ℤ) → HasFilter task old taken
      → map ranged (outputs_of_block task.taps task.form taken xs) ≡ map (λ v. Ok v) made
  pub many : length made ≡ length xs

pub made_none : (task : Task) (filter : Option FirState) (made : List ℤ) → made ≡ []
    → MadeSoFar task [] filter filter made
made_none task filter made none = record {
  filter = λ taken has. subst (λ l. HasFilter task filter l) (sym (append-nil taken)) has;
  made_are = λ taken has. ap (λ l. map (λ v. Ok v) l) (sym none);
  many = ap length none;
}

-- and more values, of which each answer is in range
pub made_then : (task : Task) (xs ys : List ℤ) (old between new : Option FirState)
    (made after : List ℤ) → MadeSoFar task xs old between made
    → length after ≡ length made + length ys
    → ((taken : List ℤ) → HasFilter task between taken → after ≡ made
    ++ before_out_of_range (outputs_of_block task.taps task.form taken ys))
    → ((taken : List ℤ) → HasFilter task between taken
    → HasFilter task new (taken ++ take (length after - length made + 1) ys))
    → MadeSoFar task (xs ++ ys) old new after
made_then task xs ys old between new made after so all outputs next = record {
  filter = λ taken has.
      subst (HasFilter task new)
      (ap (λ l. (taken ++ xs) ++ l)
      (take_all (length after - length made + 1) ys (omega arith))
      ∙ append_assoc taken xs ys)
      (next (taken ++ xs) (so.filter taken has));
  made_are = λ taken has.
      let zs = outputs_of_block task.taps task.form (taken ++ xs) ys in
      let here = outputs (taken ++ xs) (so.filter taken has) in
      let count : length after ≡ length made + length (before_out_of_range zs) =
      ap length here ∙ length-append made (before_out_of_range zs) in
      let many : length zs ≡ length ys =
      length-outputs_of_block task.taps task.form (taken ++ xs) ys in
      ap (map ranged) (outputs_of_block-append task.taps task.form taken xs ys)
      ∙ (map-append ranged (outputs_of_block task.taps task.form taken xs) zs
      ∙ (ap (λ l. l ++ map ranged zs) (so.made_are taken has)
      ∙ (ap (λ l. map (λ v. Ok v) made ++ l) (ranged-all zs (omega arith))
      ∙ (sym (map-append (λ v. Ok v) made (before_out_of_range zs))
      ∙ ap (map (λ v. Ok v)) (sym here)))));
  many = all ∙ (omega (arith, so.many, length-append xs ys));
}

take_few : (n : ℕ) (xs : List ℤ) → length (take n xs) ≤ length xs
take_few n xs = omega (arith, length-take n xs)

-- no more answers come than there are values
pub made_few : (task : Task) (ys : List ℤ) (between : Option FirState) (made after taken : List ℤ)
    → HasFilter task between taken
    → (HasFilter task between taken → after ≡ made
    ++ before_out_of_range (outputs_of_block task.taps task.form taken ys))
    → length after ≤ length made + length ys
made_few task ys between made after taken has outputs =
    let zs = outputs_of_block task.taps task.form taken ys in
    let count = ap length (outputs has) ∙ length-append made (before_out_of_range zs) in
    let few : length (before_out_of_range zs) ≤ length zs = take_few _ zs in
    omega (arith, count, length-outputs_of_block task.taps task.form taken ys)

-- the numbers of more outcomes, behind those before them
pub numbers_then : (os : List Outcome) (at end : ℕ) (ys : List ℤ) → at ≤ end
    → ys ≡ map number (take (end - at) (drop at os))
    → map number (take at os) ++ ys ≡ map number (take end os)
numbers_then os at end ys le is =
    let sum : at + (end - at) ≡ end = omega arith in
    ap (λ l. map number (take at os) ++ l) is
    ∙ (sym (map-append number (take at os) (take (end - at) (drop at os)))
    ∙ (ap (map number) (sym (take-add at (end - at) os))
    ∙ ap (λ n. map number (take n os)) sum))

-- what a filter has made of what it took is what it owes
pub filter_owes : (task : Task) (begun : ℕ) (taken : List ℤ) (os : List Outcome) (made : List ℤ)
    → task.kind ≡ Fir → 1 ≤ length os
    → map ranged (outputs_of_block task.taps task.form taken (map number os))
    ≡ map (λ v. Ok v) made
    → owed_by Nothing made ≡ owed_after_wait task begun taken (map number os)
filter_owes task begun taken [] made fir some e = absurd (let no : 1 ≤ 0 = some in omega arith)
filter_owes task begun taken (o ∷ os) [] fir some e = absurd (cc)
filter_owes task begun taken (o ∷ os) (v ∷ vs) fir some e = rw fir (ap (turns.values 0) (sym e))

-- a list of one
pub one_of : (os : List Outcome) (d : Outcome) → length os ≡ 1 → os ≡ get_or os 0 d ∷ []
one_of [] d e = absurd (let no : 0 ≡ 1 = e in omega arith)
one_of (o ∷ []) d e = refl
one_of (o ∷ p ∷ os) d e = absurd (omega arith)

-- the first places of a list of one are all of it
pub first_of : (os : List Outcome) (d : Outcome) (count : ℕ) → length os ≡ 1 → 1 ≤ count
    → take count os ≡ get_or os 0 d ∷ []
first_of os d count long some =
    take_all count os (omega arith) ∙ one_of os d long

-- what a task that is no filter owes after a first wait: of a block of one step, its value
pub others_owe : (task : Task) (begun : ℕ) (taken : List ℤ) (os : List Outcome) (d : Outcome)
    → task.kind ≢ Source → task.kind ≢ Fir → IsBlock task.kind (length os)
    → owed_after_wait task begun taken (number (get_or os 0 d) ∷ [])
    ≡ owed_after_wait task begun taken (map number os)
others_owe task begun taken os d no_source no_filter block = by task.kind refl
  where
    one : length os ≡ 1
        → owed_after_wait task begun taken (number (get_or os 0 d) ∷ [])
        ≡ owed_after_wait task begun taken (map number os)
    one long = ap (λ l. owed_after_wait task begun taken (map number l)) (sym (one_of os d long))

    by : (k : Kind) → task.kind ≡ k
        → owed_after_wait task begun taken (number (get_or os 0 d) ∷ [])
        ≡ owed_after_wait task begun taken (map number os)
    by Source e = absurd (no_source e)
    by Fir e = absurd (no_filter e)
    by Split e = one (subst (λ k. IsBlock k (length os)) e block)
    by Decimate e = one (subst (λ k. IsBlock k (length os)) e block)
    by Join e = one (subst (λ k. IsBlock k (length os)) e block)
    by Peer e = one (subst (λ k. IsBlock k (length os)) e block)
    by Sink e = rw e refl

-- a number that is not zero
pub some_of : (n : ℕ) → nat_eq n 0 ≡ false → 1 ≤ n
some_of zero e = absurd (let no : true ≡ false = e in cc)
some_of (suc n) e = omega arith
