use Rattle.std.specs.Prelude.{⊤}
use Rattle.phase_stream.proofs.table.Table.never_comes.Given as goal

-- nothing is kept of the columns before this one
abbrev pub invariant-loop-other : goal.invariant-loop-other
invariant-loop-other l = ⊤
