-- The values so far and those of the words from here on are those of the text.
use Rattle.std.proofs.Common.{◌≡◌, ◌-◌, ◌≤◌, length}
use Rattle.phase_script.specs.Words.{words_of}
use Rattle.phase_script.specs.Commands.{ints_of}
use Rattle.phase_script.proofs.BlockValues.{put_before, left_of, texts_of}
use Rattle.phase_script.proofs.script_line.read_values.Given as goal

abbrev pub invariant-loop-more : goal.invariant-loop-more
invariant-loop-more l = record {
  few : length l.values ≤ 16;
  left : ints_of (words_of l.fn.text) ≡ put_before l.values (left_of (texts_of l.more));
}

abbrev pub decreases-loop-more : goal.decreases-loop-more
decreases-loop-more l = 16 - length l.values
