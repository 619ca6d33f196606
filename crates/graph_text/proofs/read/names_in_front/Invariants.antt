use Rattle.std.proofs.Common.{◌≡◌, ◌+◌, drop}
use Rattle.std.specs.List.{prefix_len}
use Rattle.graph_text.specs.Plain.{plain}
use Rattle.phase_base.specs.Words.{is_name}
use Rattle.graph_text.proofs.read.names_in_front.Given as goal

-- the words that were passed, and those in front of the others
abbrev pub invariant-loop-word : goal.invariant-loop-word
invariant-loop-word l = record {
  count : l.count ≡ l.word-index;
  front : prefix_len is_name (plain l.words)
      ≡ l.count + prefix_len is_name (plain (drop l.word-index l.words));
}
