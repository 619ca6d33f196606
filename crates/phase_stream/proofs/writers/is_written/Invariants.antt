use Rattle.std.proofs.Common.{◌≡◌, ℕ, List}
use Rattle.phase_stream.proofs.writers.is_written.Given as goal

-- what is known of all files is as before
abbrev pub invariant-loop-before : goal.invariant-loop-before
invariant-loop-before g l = (other : List ℕ)
    → g.F.Files.file l.files other ≡ g.F.Files.file l.fn.files other
