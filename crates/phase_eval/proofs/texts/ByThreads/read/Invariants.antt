use Rattle.std.proofs.Common.{◌≤◌, ◌-◌, length}
use Rattle.graph_lang.specs.PlainLines.{ArePlainLines}
use Rattle.phase_eval.proofs.texts.ByThreads.read.Given as goal

-- the samples so far are those of the lines up to this place
abbrev pub invariant-loop-from : goal.invariant-loop-from
invariant-loop-from g l = record {
  within : l.from ≤ length l.text;
  lines : ArePlainLines l.text 0 l.from l.values.items;
}

-- each round leaves fewer bytes
abbrev pub decreases-loop-from : goal.decreases-loop-from
decreases-loop-from g l = length l.text - l.from
