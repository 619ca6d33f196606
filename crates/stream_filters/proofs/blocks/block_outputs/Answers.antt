use Rattle.std.proofs.Common.{rules, arith, ◌≡◌, ◌+◌, ◌^◌, ◌<◌, suc, map, w64, FitsSigned, of_z, ap, subst, sym, ◌∙◌}
use Rattle.std.specs.Prelude.{unsigned_abs}
use Rattle.std.specs.Simd.Lanes.{Each1}
use Rattle.std.proofs.lemmas.Int.{to_z-of_z}
use Rattle.stream_filters.proofs.Lanes.{short-handed, sums-handed, added-handed}
use Rattle.stream_filters.proofs.ManySums.{sums_after, products_at, lanes_at, lanes-read, lanes_at-short, products-made, sums_after-fit, products_at-fit, lanes-add_up, sums_after-more, sums-back, sums_after-added-fit, sums-added, sums_added-back, sums_added-fit, outputs-handed}
use Rattle.stream_filters.proofs.blocks.block_outputs.Goals as goal

-- samples of 32 bits
pub short_lanes-lanes-requires-clause-short : goal.short_lanes-lanes-requires-clause-short
short_lanes-lanes-requires-clause-short c =
    let taps = c.args.taps.now in
    let samples = c.args.samples.now in
    rw (lanes-read taps samples c.loop-j.j c.loop-j-test.true c.requires.enough)
    (lanes_at-short taps c.args.form.now.plus samples c.requires.narrow c.loop-j.j)

pub scaled-requires-clause-short : goal.scaled-requires-clause-short
scaled-requires-clause-short c =
    let taps = c.args.taps.now in
    let samples = c.args.samples.now in
    let j = c.loop-j.j in
    short-handed _ (lanes_at taps samples j)
    (c.short_lanes-lanes.ensures ∙ lanes-read taps samples j c.loop-j-test.true c.requires.enough)
    (lanes_at-short taps c.args.form.now.plus samples c.requires.narrow j)

-- no sum is too large
pub added-sums-requires : goal.added-sums-requires
added-sums-requires c =
    let taps = c.args.taps.now in
    let samples = c.args.samples.now in
    let j = c.loop-j.j in
    let lt = c.loop-j-test.true in
    let narrow = c.requires.narrow in
    let lanes = c.short_lanes-lanes.ensures ∙ lanes-read taps samples j lt c.requires.enough in
    sums-handed _ (sums_after taps samples j) _ (products_at taps samples j) c.loop-j.invariant
    (products-made taps c.args.form.now.plus samples _ _ j narrow lt lanes c.scaled.ensures)
    (sums_after-fit taps c.args.form.now.plus samples narrow j) (products_at-fit taps c.args.form.now.plus samples narrow j lt)
    (lanes-add_up taps c.args.form.now.plus samples narrow j lt)

-- the sums with one more tap
pub loop-j-preserved : goal.loop-j-preserved
loop-j-preserved c =
    let taps = c.args.taps.now in
    let samples = c.args.samples.now in
    let j = c.loop-j.j in
    let lt = c.loop-j-test.true in
    let narrow = c.requires.narrow in
    let lanes = c.short_lanes-lanes.ensures ∙ lanes-read taps samples j lt c.requires.enough in
    let next : suc j ≡ j + 1 = omega arith in
    let sums : c.added-sums.result ≡ sums_after taps samples (suc j) =
    added-handed _ (sums_after taps samples j) _ (products_at taps samples j)
    (sums_after taps samples (suc j)) _
    c.added-sums.ensures c.loop-j.invariant (products-made taps c.args.form.now.plus samples _ _ j narrow lt lanes
    c.scaled.ensures)
    (sums_after-fit taps c.args.form.now.plus samples narrow j) (products_at-fit taps c.args.form.now.plus samples narrow j lt)
    (sums_after-more taps samples j lt) in
    ap (map (of_z w64)) (sums ∙ ap (sums_after taps samples) next)

-- what is added to the sums over all taps
pub with_added-requires-clause-fits : goal.with_added-requires-clause-fits
with_added-requires-clause-fits c =
    let taps = c.args.taps.now in
    let plus = c.args.form.now.plus in
    let samples = c.args.samples.now in
    let fits : FitsSigned w64 plus = search rules in
    rw (
      sums-back taps plus samples c.loop-j.j c.loop-j.sums c.requires.narrow c.loop-j.invariant,
      to_z-of_z w64 plus fits,
    )
    (sums_after-added-fit taps plus samples c.loop-j.j c.requires.narrow c.loop-j-test.false)

pub lanes_shifted-requires-clause-fits : goal.lanes_shifted-requires-clause-fits
lanes_shifted-requires-clause-fits c =
    let taps = c.args.taps.now in
    let plus = c.args.form.now.plus in
    let samples = c.args.samples.now in
    let fits : FitsSigned w64 plus = search rules in
    let sums = sums-added taps plus _ samples c.loop-j.j c.loop-j.sums c.with_added.result
    c.requires.narrow c.loop-j-test.false c.loop-j.invariant (to_z-of_z w64 plus fits)
    c.with_added.ensures in
    subst (Each1 (λ sum. unsigned_abs sum < 2 ^ 63))
    (sym (sums_added-back taps plus samples c.with_added.result c.requires.narrow sums))
    (sums_added-fit taps plus samples c.requires.narrow)

-- and these shifted down
pub returns : goal.returns
returns c =
    let taps = c.args.taps.now in
    let plus = c.args.form.now.plus in
    let samples = c.args.samples.now in
    let fits : FitsSigned w64 plus = search rules in
    outputs-handed taps c.args.form.now samples c.with_added.result c.lanes_shifted.result
    c.requires.narrow
    (sums-added taps plus _ samples c.loop-j.j c.loop-j.sums c.with_added.result c.requires.narrow
    c.loop-j-test.false c.loop-j.invariant (to_z-of_z w64 plus fits) c.with_added.ensures)
    c.lanes_shifted.ensures
