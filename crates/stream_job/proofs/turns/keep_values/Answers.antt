-- One in range is kept behind the others, before those that come.
use Rattle.std.proofs.Common.{rules, SFits, w64, to_z, of_z, pos, ◌≡◌, ◌<◌, ◌+◌, ◌++◌, ◌∷◌, [], false, length, get_or, drop, sym, ap, ◌∙◌, arith, to_z-of_z}
use Rattle.std.proofs.lemmas.List.{append_assoc, drop_more, length-append}
use Rattle.phase_accum.specs.declared.outcome.Outcome.TheVariants.{Value}
use Rattle.stream_lists.specs.Lists.{number as number_of}
use Rattle.stream_lists.specs.Ranges.{is_too_big}
use Rattle.stream_job.specs.SinkLines.{kept_of}
use Rattle.stream_job.proofs.SinksKeep.{kept_first}
use Rattle.stream_job.proofs.turns.keep_values.Goals as goal

pub loop-outcome-preserved : goal.loop-outcome-preserved
loop-outcome-preserved c =
    let i = c.loop-outcome.outcome-index in
    let outcomes = c.args.outcomes.now in
    let kept = c.loop-outcome.values.items in
    let x = get_or outcomes i (Value (pos 0)) in
    let rest = drop (i + 1) outcomes in
    let within : i < length outcomes = c.loop-outcome-test.true in
    let small : is_too_big (get_or c.args.outcomes.now c.loop-outcome.outcome-index (Value (pos 0)))
    ≡ false = search rules in
    let fits : SFits w64 c.number_taken.result = search rules in
    let y = to_z w64 (of_z w64 c.number_taken.result) in
    let taken : y ≡ number_of x = to_z-of_z fits ∙ c.number_taken.ensures in
    let items : c.push_reserved.new.self.items ≡ kept ++ y ∷ [] = c.push_reserved.ensures.items in
    let came : kept_of (drop i outcomes) ≡ number_of x ∷ kept_of rest =
    ap kept_of (drop_more outcomes i (Value (pos 0)) within) ∙ kept_first x rest small in
    let long = length-append kept (y ∷ []) in
    let now = ap length items in
    let was = c.loop-outcome.invariant.1 in (
      ap (λ l. l ++ kept_of rest) items
          ∙ append_assoc kept (y ∷ []) (kept_of rest)
          ∙ ap (λ z. kept ++ z ∷ kept_of rest) taken
          ∙ ap (λ l. kept ++ l) (sym came)
          ∙ c.loop-outcome.invariant.0,
      omega arith,
      c.push_reserved.ensures.capacity ∙ c.loop-outcome.invariant.2,
    )
