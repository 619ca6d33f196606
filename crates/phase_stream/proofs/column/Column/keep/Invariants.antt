use Rattle.std.proofs.Common.{◌≡◌, ◌++◌}
use Rattle.std.specs.Prelude.{take}
use Rattle.phase_stream.specs.Columns.{IsSameSink}
use Rattle.phase_stream.proofs.column.Column.keep.Given as goal

-- the values before this one wait
abbrev pub invariant-loop-value : goal.invariant-loop-value
invariant-loop-value l = (l.self.values.items ≡ l.fn.self.values.items ++ take l.value-index l.values)
    × (l.self.late ≡ l.fn.self.late) × IsSameSink l.fn.self l.self × (l.self.count ≡ l.fn.self.count)
