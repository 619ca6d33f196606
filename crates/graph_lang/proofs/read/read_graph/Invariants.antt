use Rattle.std.proofs.Common.{◌≡◌, ◌+◌}
use Rattle.graph_lang.proofs.ReadLines.{Continues}
use Rattle.graph_lang.proofs.read.read_graph.Given as goal

-- what reading the lines that are left comes to, where this version is known, the whole text comes
-- to
abbrev pub invariant-loop-line : goal.invariant-loop-line
invariant-loop-line l = record {
  number : l.number ≡ l.line-index + 1;
  so_far : Continues l.line-items l.line-index l.number l.version l.draft;
}
