use Rattle.std.proofs.Common.{◌≡◌, ◌≤◌, ◌-◌, length, take}
use Rattle.std.specs.List.{flat_map}
use Rattle.watched_io.specs.Watched.{has_failed_of, inner_of}
use Rattle.graph_commands.specs.OutputTexts.{value_text}
use Rattle.graph_commands.specs.Puts.{PutsBytes}
use Rattle.graph_commands.proofs.output_buffer.OutputBuffer.put_all.Given as goal

-- the values before this place were put
abbrev pub invariant-loop-at : goal.invariant-loop-at
invariant-loop-at g l = record {
  within : l.at ≤ length l.values;
  put : PutsBytes (g.W.Write.contents (inner_of l.fn.writer)) (g.W.Write.contents (inner_of l.writer))
      l.fn.self l.self (flat_map value_text (take l.at l.values));
  same : has_failed_of l.writer ≡ has_failed_of l.fn.writer;
}

-- each round leaves fewer values
abbrev pub decreases-loop-at : goal.decreases-loop-at
decreases-loop-at g l = length l.values - l.at
