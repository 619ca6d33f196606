-- The sinks of a graph as the columns of a table: a line with their names, and one for each step.
use Rattle.std.specs.Prelude.{ℕ, ℤ, ◌+◌, ◌-◌, ◌==◌, Bool, List, [], ◌∷◌, ◌++◌, length, map, get_or, codes, nat_lt, slice_get, Some, None, if◌then◌else◌}
use Rattle.std.specs.Fmt.{signed_decimal}
use Rattle.std.specs.List.{flat_map, range_with_len}
use Rattle.std.specs.declared.option.Option.{Option}
use Rattle.graph_base.specs.Graphs.{name_at}
use Rattle.graph_base.specs.declared.place.Place.TheVariants as place
use Rattle.stream_lists.specs.Jobs.{Job}
use Rattle.stream_lists.specs.Spans.{greatest, span_in}

-- a sink's number and its values
abbrev pub SinkValues : Type 0
SinkValues = ℕ × List ℤ

-- the value of number n behind this start, where there is one
abbrev pub value_from : ℕ → List ℤ → ℕ → Option ℤ
value_from start values n = if nat_lt n start then None else slice_get values (n - start)

-- one past the last value behind this start, or 0 where there is no value
abbrev pub end_from : ℕ → List ℤ → ℕ
end_from start [] = 0
end_from start (value ∷ values) = start + length (value ∷ values)

-- the value of a sink at step n of its phaser, where it has begun and has not ended
abbrev pub value_at : Job → ℕ → SinkValues → Option ℤ
value_at job n sink = value_from (span_in job sink.0).offset sink.1 n

-- one past the step of its last value
abbrev pub end_at : Job → SinkValues → ℕ
end_at job sink = end_from (span_in job sink.0).offset sink.1

-- a value, or nothing. The only cell of a line has quotes for that: readers of such tables leave
-- out an empty line
abbrev pub value_cell : Bool → Option ℤ → List ℕ
value_cell alone (Some value) = signed_decimal value
value_cell alone None = if alone then codes "\"\"" else []

-- what stands in a sink's column: its name in the line of no step, and else its value at the step
abbrev pub cell : Job → Bool → Option ℕ → SinkValues → List ℕ
cell job alone None sink = name_at job.graph (place.Task sink.0)
cell job alone (Some n) sink = value_cell alone (value_at job n sink)

-- a comma stands before each cell but the first
abbrev pub comma_before : ℕ → List ℕ
comma_before k = if nat_lt 0 k then codes "," else []

-- cell number k of a line, with its comma
abbrev pub cell_at : Job → List SinkValues → Option ℕ → ℕ → List ℕ
cell_at job sinks step k =
    comma_before k ++ cell job (length sinks == 1) step (get_or sinks k (0, []))

-- a cell of each sink
abbrev pub cells_text : Job → List SinkValues → Option ℕ → List ℕ
cells_text job sinks step = flat_map (cell_at job sinks step) (range_with_len 0 (length sinks))

-- the line of a step, or that of the names
abbrev pub row_text : Job → List SinkValues → Option ℕ → List ℕ
row_text job sinks step = cells_text job sinks step ++ codes "\n"

-- how many steps have a line: up to the last at which a sink has a value
abbrev pub rows_of : Job → List SinkValues → ℕ
rows_of job sinks = greatest (map (end_at job) sinks)

-- the line of the names, and one for each step
abbrev pub columns_text : Job → List SinkValues → List ℕ
columns_text job sinks =
    row_text job sinks None
    ++ flat_map (λ n. row_text job sinks (Some n)) (range_with_len 0 (rows_of job sinks))
