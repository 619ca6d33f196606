-- The next outcome is in range.
use Rattle.std.proofs.Common.{◌≡◌, ℕ, ◌+◌, ◌<◌, ◌≤◌, false, length, slice_index_or, pos, sym, ap, ◌∙◌, arith, ◌⊎◌, inl, inr}
use Rattle.std.proofs.lemmas.Bool.{cases_lt}
use Rattle.std.proofs.lemmas.Option.{slice_get-get_or, same_Some}
use Rattle.phase_accum.specs.declared.outcome.Outcome.{Outcome}
use Rattle.phase_accum.specs.declared.outcome.Outcome.TheVariants.{Value}
use Rattle.stream_lists.specs.Ranges.{is_too_big}
use Rattle.stream_tasks.proofs.turn.all_fit.Goals as goal

pub loop-outcome-init : goal.loop-outcome-init
loop-outcome-init c = λ k d less. absurd (omega arith)

pub loop-outcome-preserved : goal.loop-outcome-preserved
loop-outcome-preserved c = λ k d less. by k d less (cases_lt k c.loop-outcome.outcome-index)
  where
    by : (k : ℕ) (d : Outcome) → k < c.loop-outcome.outcome-index + 1
        → (k < c.loop-outcome.outcome-index) ⊎ (c.loop-outcome.outcome-index ≤ k)
        → is_too_big (slice_index_or c.args.outcomes.now k d) ≡ false
    by k d less (inl before) = c.loop-outcome.invariant k d before
    by k d less (inr high) =
        let i = c.loop-outcome.outcome-index in
        let items = c.args.outcomes.now in
        let none = Value (pos 0) in
        let here : k ≡ i = omega arith in
        let within : k < length items = (let few : i < length items = c.loop-outcome-test.true in omega arith) in
        let one : is_too_big (slice_index_or items i none) ≡ false =
        sym c.is_too_big.ensures ∙ c.if-is_too_big.false in
        let same : slice_index_or items k d ≡ slice_index_or items k none =
        same_Some (slice_index_or items k d) (slice_index_or items k none)
        (sym (slice_get-get_or items k d within) ∙ slice_get-get_or items k none within) in
        ap is_too_big (same ∙ ap (λ n. slice_index_or items n none) here) ∙ one

pub returns : goal.returns
returns c = λ yes k d less.
    let over : length c.args.outcomes.now ≤ c.loop-outcome.outcome-index = c.loop-outcome-test.false in
    c.loop-outcome.invariant k d (omega arith)
