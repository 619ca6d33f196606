use Rattle.std.proofs.Common.{arith}
use Rattle.stream_filters.proofs.Made.{MadeSoFar-all}
use Rattle.stream_filters.proofs.PlainLists.{weighed-length}
use Rattle.stream_filters.proofs.Windows.{weight-small}
use Rattle.stream_filters.proofs.whole_list.add_all.Goals as goal

-- 64 taps weigh little
pub weight_of-requires : goal.weight_of-requires
weight_of-requires c = weight-small c.args.taps.now c.args.form.now c.requires.taps

-- all weighed are made
pub returns-clause-ok : goal.returns-clause-ok
returns-clause-ok c =
    (MadeSoFar-all _ _ _ c.loop-at.invariant.made
    (omega (
      arith,
      weighed-length c.args.taps.now c.args.form.now c.args.samples.now,
      c.loop-at-test.false,
    ))).0

pub returns-clause-in_range : goal.returns-clause-in_range
returns-clause-in_range c =
    (MadeSoFar-all _ _ _ c.loop-at.invariant.made
    (omega (
      arith,
      weighed-length c.args.taps.now c.args.form.now c.args.samples.now,
      c.loop-at-test.false,
    ))).1
