-- By each of the values, where there are some.
use Rattle.std.proofs.Common.{◌≡◌, ◌≢◌, ◌+◌, ◌<◌, ◌≤◌, ℕ, zero, suc, true, false, List, [], ◌∷◌, length, drop, get_or, refl, sym, ap, ◌∙◌, arith}
use Rattle.std.specs.Prelude.{Result, Ok, Err, is_err, ℤ}
use Rattle.stream_filters.specs.declared.fault.TooBigValue.{TooBigValue}
use Rattle.graph_runs.specs.declared.owed.Owed.{Owed}
use Rattle.stream_job.specs.Stepping.{in_range, are_in_range}
use Rattle.stream_job.specs.Places.{owed_in}
use Rattle.stream_job.proofs.Signals.{some_items}
use Rattle.stream_job.proofs.task_state.TaskState.are_in_range.Goals as goal

where_some : (owed : Owed) (vs : List (Result ℤ TooBigValue)) → vs ≢ []
    → are_in_range (owed_in owed vs) ≡ in_range vs
where_some owed [] some = absurd (some refl)
where_some owed (v ∷ vs) some = refl

-- by the value at this place
at_place : (vs : List (Result ℤ TooBigValue)) (i : ℕ) (d : Result ℤ TooBigValue)
    → i < length vs
    → (is_err (get_or vs i d) ≡ true → in_range (drop i vs) ≡ false)
    × (is_err (get_or vs i d) ≡ false → in_range (drop i vs) ≡ in_range (drop (suc i) vs))
at_place [] i d lt = absurd (omega arith)
at_place (Ok v ∷ vs) zero d lt = ((λ e. absurd (cc)), (λ e. refl))
at_place (Err out ∷ vs) zero d lt = ((λ e. refl), (λ e. absurd (cc)))
at_place (v ∷ vs) (suc i) d lt = at_place vs i d (omega arith)

at_end : (vs : List (Result ℤ TooBigValue)) (i : ℕ) → length vs ≤ i
    → in_range (drop i vs) ≡ true
at_end [] zero le = refl
at_end [] (suc i) le = refl
at_end (v ∷ vs) zero le = absurd (omega arith)
at_end (v ∷ vs) (suc i) le = at_end vs i (omega arith)

pub loop-value-preserved : goal.loop-value-preserved
loop-value-preserved c =
    let i = c.loop-value.value-index in
    let same = c.deref-value-items.ensures.value in
    let one : suc c.loop-value.value-index ≡ c.loop-value.value-index + 1 = omega arith in
    c.loop-value.invariant
    ∙ ap (λ l. in_range (drop i l)) (sym same)
    ∙ (at_place c.deref-value-items.result.now i _ c.loop-value-test.true).1
    (sym c.is_err.ensures.value ∙ c.if-is_err.false)
    ∙ ap (λ l. in_range (drop (suc i) l)) same
    ∙ ap (λ n. in_range (drop n c.args.self.now.made.items)) one

pub returns-then-is_err : goal.returns-then-is_err
returns-then-is_err c =
    let i = c.loop-value.value-index in
    where_some c.args.self.now.owed c.args.self.now.made.items
    (some_items c.args.self.now.made (sym c.is_empty.ensures ∙ c.if-is_empty.false))
    ∙ c.loop-value.invariant
    ∙ ap (λ l. in_range (drop i l)) (sym c.deref-value-items.ensures.value)
    ∙ (at_place c.deref-value-items.result.now i _ c.loop-value-test.true).0
    (sym c.is_err.ensures.value ∙ c.if-is_err.true)

pub returns : goal.returns
returns c =
    let long = ap length c.deref-value-items.ensures.value in
    let past = c.loop-value-test.false in
    where_some c.args.self.now.owed c.args.self.now.made.items
    (some_items c.args.self.now.made (sym c.is_empty.ensures ∙ c.if-is_empty.false))
    ∙ c.loop-value.invariant
    ∙ at_end c.args.self.now.made.items c.loop-value.value-index (omega arith)
