use Rattle.std.proofs.Common.{◌≡◌, ◌++◌, ◌==◌, None, length, get_or, map}
use Rattle.std.specs.List.{flat_map, range_with_len}
use Rattle.graph_commands.specs.ColumnTexts.{comma_before, value_cell}
use Rattle.phase_stream.specs.Columns.{next_cell}
use Rattle.phase_stream.proofs.table.Table.put_line.Given as goal

-- the cells before this one were put
abbrev pub invariant-loop-k : goal.invariant-loop-k
invariant-loop-k l = l.text.items ≡ l.fn.text.items
    ++ flat_map (λ j. comma_before j ++ value_cell (length (map next_cell l.self.columns.items) == 1)
    (get_or (map next_cell l.self.columns.items) j None)) (range_with_len 0 l.k)
