use Rattle.std.proofs.Common.{◌≤◌, ◌-◌, length}
use Rattle.stream_eval.specs.Parts.{ArePart}
use Rattle.stream_filters.specs.Filter.{outputs}
use Rattle.phase_eval.proofs.texts.ByThreads.filter.Given as goal

-- the outputs so far are those up to this place
abbrev pub invariant-loop-from : goal.invariant-loop-from
invariant-loop-from g l = record {
  within : l.from ≤ length l.samples;
  values : ArePart (outputs l.taps l.form l.samples) 0 l.from l.values.items;
}

-- each round leaves fewer samples
abbrev pub decreases-loop-from : goal.decreases-loop-from
decreases-loop-from g l = length l.samples - l.from
