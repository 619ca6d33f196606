-- The words that a person types at a terminal.
use Rattle.std.specs.Prelude.{◌++◌, ◌&&◌, ◌||◌, Bool, false, not, List, [], ◌∷◌, codes, if◌then◌else◌}
use Rattle.std.specs.List.{list_any}
use Rattle.std.specs.Str.{bytes_eq}
use Rattle.clap.specs.Words.{Text}

-- the word is the name of a command on a graph
abbrev pub is_on_graph : Text → Bool
is_on_graph word =
    bytes_eq word (codes "check") || bytes_eq word (codes "draw") || bytes_eq word (codes "eval")
    || bytes_eq word (codes "run") || bytes_eq word (codes "stream")

-- it asks for explanations, or no flag stands behind it
abbrev pub settles : Text → Bool
settles word = bytes_eq word (codes "--explain") || bytes_eq word (codes "--")

-- the words are for such a command, and none of those behind its name does
abbrev pub is_open : Text → List Text → Bool
is_open first behind = is_on_graph first && not (list_any settles behind)

-- the same of all the words
abbrev pub leave_open : List Text → Bool
leave_open [] = false
leave_open (first ∷ behind) = is_open first behind

-- they ask for explanations then
abbrev pub for_person : List Text → List Text
for_person words = if leave_open words then words ++ codes "--explain" ∷ [] else words
