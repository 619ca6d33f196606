use Rattle.std.proofs.Common.{◌≡◌, ℕ, List, length}
use Rattle.phase_stream.specs.Outputs.{AreBare}
use Rattle.phase_stream.proofs.writers.make_all.Given as goal

-- the files before this one were made, and what is known of the others is as before
abbrev pub invariant-loop-k : goal.invariant-loop-k
invariant-loop-k g l = record {
  many : length l.made.items ≡ l.k;
  bare : AreBare g.F.Opens.knows g.F.Writer.Write.contents l.made.items;
  same : (other : List ℕ) → g.F.Files.file l.files other ≡ g.F.Files.file l.fn.files other;
}
