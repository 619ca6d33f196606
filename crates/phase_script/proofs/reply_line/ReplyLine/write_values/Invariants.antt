-- The words for the first outcomes are put.
use Rattle.std.proofs.Common.{◌≡◌, ◌+◌, ◌*◌, ◌≤◌, ◌++◌, codes, decimal, length, take}
use Rattle.phase_script.specs.ReplyLines.{outcomes_text}
use Rattle.phase_script.proofs.reply_line.ReplyLine.write_values.Given as goal

abbrev pub invariant-loop-outcome : goal.invariant-loop-outcome
invariant-loop-outcome l = record {
  line : l.self ≡ (codes "values " ++ decimal l.phase) ++ outcomes_text (take l.outcome-index l.outcome-items);
  short : length l.self ≤ 27 + 21 * l.outcome-index;
  items : l.outcome-items ≡ l.outcomes;
  few : length l.outcomes ≤ 16;
}
