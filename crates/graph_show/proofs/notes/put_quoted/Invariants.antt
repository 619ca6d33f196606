use Rattle.std.proofs.Common.{◌≡◌, ◌++◌, take}
use Rattle.std.specs.List.{flat_map}
use Rattle.graph_show.specs.Drawings.{quoted}
use Rattle.graph_show.proofs.notes.put_quoted.Given as goal

-- the bytes before this one stand behind the text
abbrev pub invariant-loop-b : goal.invariant-loop-b
invariant-loop-b l = l.text.items ≡ l.fn.text.items ++ flat_map quoted (take l.b-index l.word)
