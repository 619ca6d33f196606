-- What the code keeps while it writes.
use Rattle.std.specs.Prelude.{ℕ, ℤ, List, length}
use Rattle.stream_eval.specs.declared.whole.Lines.{Lines}

-- the values of a sink
abbrev pub items_in : Lines → List ℤ
items_in lines = lines.values.items

-- how many there are
abbrev pub count_in : Lines → ℕ
count_in lines = length lines.values.items
