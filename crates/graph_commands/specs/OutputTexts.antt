-- The output text of a graph.
use Rattle.std.specs.Prelude.{ℕ, ℤ, List, [], ◌∷◌, ◌++◌, ◌==◌, length, codes, decimal, Some, None, if◌then◌else◌}
use Rattle.std.specs.Fmt.{signed_decimal}
use Rattle.std.specs.List.{flat_map}
use Rattle.std.specs.declared.option.Option.{Option}
use Rattle.graph_base.specs.Graphs.{Graph, name_at}
use Rattle.graph_base.specs.declared.place.Place.TheVariants as place

-- a value on a line of its own
abbrev pub value_text : ℤ → List ℕ
value_text value = signed_decimal value ++ codes "\n"

-- where a sink begins, of one that has a start
abbrev pub start_text : Option ℕ → List ℕ
start_text None = []
start_text (Some start) = codes " from " ++ decimal start

-- the line of a sink's name, its start, where it has one, and the count of its values
abbrev pub heading_text : List ℕ → Option ℕ → ℕ → List ℕ
heading_text name start count =
    name ++ start_text start ++ codes " " ++ decimal count ++ codes "\n"

-- this line, and then the sink's values
abbrev pub sink_text : List ℕ → Option ℕ → List ℤ → List ℕ
sink_text name start values =
    heading_text name start (length values) ++ flat_map value_text values

-- the text of each of these sinks, by its number, in their order
abbrev pub text_of : Graph → List (ℕ × Option ℕ × List ℤ) → List ℕ
text_of graph lines =
    flat_map (λ line. sink_text (name_at graph (place.Task line.0)) line.1 line.2) lines

-- the values of a sink among those of all
abbrev pub values_of_sink : ℕ → List (ℕ × Option ℕ × List ℤ) → List ℤ
values_of_sink t [] = []
values_of_sink t (line ∷ lines) = if line.0 == t then line.2 else values_of_sink t lines

-- the text of all these sinks, or the values of one of them alone
abbrev pub lines_text : Graph → List (ℕ × Option ℕ × List ℤ) → Option ℕ → List ℕ
lines_text graph lines None = text_of graph lines
lines_text graph lines (Some t) = flat_map value_text (values_of_sink t lines)
