use Rattle.std.proofs.Common.{◌≡◌, ◌+◌, drop}
use Rattle.std.specs.List.{prefix_len}
use Rattle.graph_text.specs.Plain.{plain}
use Rattle.phase_base.specs.Numbers.{is_int}
use Rattle.graph_text.proofs.read.ints_in_front.Given as goal

-- the words that were passed, and those in front of the others
abbrev pub invariant-loop-word : goal.invariant-loop-word
invariant-loop-word l = record {
  count : l.count ≡ l.word-index;
  front : prefix_len is_int (plain l.words)
      ≡ l.count + prefix_len is_int (plain (drop l.word-index l.words));
}
