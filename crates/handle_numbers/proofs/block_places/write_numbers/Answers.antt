-- One more number stands behind those before it.
use Rattle.std.proofs.Common.{◌≡◌, ◌<◌, length, pos, set, w64, to_z, of_z, ap, ◌∙◌, arith}
use Rattle.std.proofs.lemmas.Int.{ints}
use Rattle.phase_accum.specs.declared.outcome.Outcome.TheVariants as outcome
use Rattle.handle_numbers.proofs.BlockWaits.{write-more}
use Rattle.handle_numbers.proofs.block_places.write_numbers.Goals as goal

pub loop-k-preserved : goal.loop-k-preserved
loop-k-preserved c =
    let l = c.loop-k in
    let outcomes = c.args.outcomes.now in
    let within : l.k < length outcomes = c.loop-k-test.true in
    let code = c.value_code.result in
    let small = c.value_code.type_inv in
    let back : to_z w64 (of_z w64 code) ≡ code = omega (arith, ints, small) in
    ap (λ x. set l.values l.k x) (back ∙ c.value_code.ensures)
    ∙ write-more l.values c.args.values.now outcomes l.k (outcome.Value (pos 0)) within c.requires
    l.invariant
