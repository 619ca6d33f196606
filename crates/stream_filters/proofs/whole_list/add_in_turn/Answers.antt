use Rattle.std.proofs.Common.{arith}
use Rattle.stream_filters.proofs.Firs.{AreAhead-taps}
use Rattle.stream_filters.specs.Filter.{taps_ahead}
use Rattle.stream_filters.proofs.Made.{MadeSoFar-all}
use Rattle.stream_filters.proofs.Outputs.{outputs-length}
use Rattle.stream_filters.proofs.Windows.{weight-small}
use Rattle.stream_filters.proofs.whole_list.add_in_turn.Goals as goal

-- 1,024 taps weigh little
pub weight_of-requires : goal.weight_of-requires
weight_of-requires c =
    weight-small (taps_ahead c.args.taps.now c.args.form.now) c.args.form.now
    (AreAhead-taps c.args.taps.now c.args.form.now c.requires.taps)

-- all outputs are made
pub returns-clause-ok : goal.returns-clause-ok
returns-clause-ok c =
    (MadeSoFar-all _ _ _ c.loop-at.invariant.put.made
    (omega (
      arith,
      outputs-length c.args.taps.now c.args.form.now c.args.samples.now,
      c.loop-at-test.false,
    ))).0

pub returns-clause-in_range : goal.returns-clause-in_range
returns-clause-in_range c =
    (MadeSoFar-all _ _ _ c.loop-at.invariant.put.made
    (omega (
      arith,
      outputs-length c.args.taps.now c.args.form.now c.args.samples.now,
      c.loop-at-test.false,
    ))).1
