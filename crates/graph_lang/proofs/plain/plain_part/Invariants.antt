use Rattle.std.proofs.Common.{ℤ, List, ◌≡◌, ◌≤◌, ◌<◌, ◌-◌, ◌++◌, length, drop}
use Rattle.csv.specs.Reading.{strip_bom}
use Rattle.phase_accum.specs.Sends.{AreSends}
use Rattle.graph_lang.specs.PlainLines.{Leads}
use Rattle.graph_lang.proofs.plain.plain_part.Given as goal

-- the values so far are those of the lines so far, each of a byte at least
abbrev pub invariant-loop-at : goal.invariant-loop-at
invariant-loop-at l = record {
  within : l.at ≤ length l.text;
  from : l.from ≤ l.at;
  few : length l.values.items ≤ l.at - l.from;
  bare : l.from ≡ 0 → 0 < l.at → strip_bom l.text ≡ l.text;
  sends : AreSends l.values.items;
  leads : (before : List ℤ) → Leads l.text before (drop l.from l.text)
      → Leads l.text (before ++ l.values.items) (drop l.at l.text);
}

-- each line leaves fewer bytes
abbrev pub decreases-loop-at : goal.decreases-loop-at
decreases-loop-at l = length l.text - l.at
