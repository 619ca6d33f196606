use Rattle.std.proofs.Common.{arith, ◌+◌, ◌-◌}
use Rattle.stream_filters.specs.Weighing.{weighed}
use Rattle.stream_filters.specs.FilterFields.{MadeSoFar}
use Rattle.stream_filters.proofs.WholeLists.{IsNarrow-shown, block-made, OnOk-extended}
use Rattle.stream_filters.proofs.whole_list.add_block.Goals as goal

-- the samples are small
pub block_outputs-outputs-requires-clause-narrow : goal.block_outputs-outputs-requires-clause-narrow
block_outputs-outputs-requires-clause-narrow c =
    let some = c.requires.taps.some in
    IsNarrow-shown _ _ c.args.form.now (c.args.at - c.args.form.now.delay) c.requires.taps c.requires.small
    (omega (arith, c.requires.within, some)) (omega (arith, c.requires.within))

-- the next 16 weighed, which are in range
pub returns : goal.returns
returns c =
    let taps = c.args.taps.now in
    let samples = c.args.samples.now in
    let at = c.args.at in
    record {
      made = OnOk-extended c.extend_from_slice.result
          (λ list. MadeSoFar (weighed taps c.args.form.now samples) list
          (at + 16)) c.args.list.now.items
          c.block_outputs-outputs.result _ c.extend_from_slice.ensures.items
          (block-made taps samples c.args.list.now.items c.block_outputs-outputs.result
          c.args.form.now at c.requires.taps
          c.requires.small c.requires.within.0 c.requires.within.1 c.block_outputs-outputs.ensures
          c.requires.made);
    }
