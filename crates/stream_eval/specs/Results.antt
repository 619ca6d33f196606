-- What the results of an evaluation stand for.
use Rattle.std.specs.Prelude.{ℕ, ℤ, List, Option}
use Rattle.stream_eval.specs.declared.whole.Lines.{Lines}

-- a sink's number and its values
abbrev pub sink_values : Lines → ℕ × List ℤ
sink_values lines = (lines.task, lines.values.items)

-- a sink's number, its start, where it has one, and its values
abbrev pub sink_output : Lines → ℕ × Option ℕ × List ℤ
sink_output lines = (lines.task, lines.start, lines.values.items)
