-- What names stand for, and the names of a graph as an `IndexMap` keeps them.
use Rattle.std.specs.Prelude.{ℕ, List, [], ◌∷◌, map, Option, Some, None, if◌then◌else◌, String, string_bytes}
use Rattle.std.specs.Str.{bytes_eq}
use Rattle.std.specs.Global.{Global}
use Rattle.phase_base.specs.Words.{Word}
use Rattle.graph_base.specs.Graphs.{Named}
use Rattle.graph_base.specs.declared.place.Place.{Place}
use Rattle.graph_base.specs.declared.place.Place.TheVariants as place

-- what a name stands for, where it was declared
abbrev pub place_of : List Named → Word → Option Place
place_of [] name = None
place_of (named ∷ others) name =
    if bytes_eq name named.0 then Some named.1 else place_of others name

-- the number of a phaser, where the name is one's
abbrev pub phaser_number : Option Place → Option ℕ
phaser_number None = None
phaser_number (Some (place.Phaser p)) = Some p
phaser_number (Some (place.Task t)) = None

-- the number of a task, where the name is one's
abbrev pub task_number : Option Place → Option ℕ
task_number None = None
task_number (Some (place.Phaser p)) = None
task_number (Some (place.Task t)) = Some t

-- the phaser of that name
abbrev pub phaser_named : List Named → Word → Option ℕ
phaser_named names name = phaser_number (place_of names name)

-- the task of that name
abbrev pub task_named : List Named → Word → Option ℕ
task_named names name = task_number (place_of names name)

-- ---- for the code

-- names as bytes
abbrev pub names_of : List (String Global × Place) → List Named
names_of entries = map (λ entry. (string_bytes entry.0, entry.1)) entries

-- files as bytes
abbrev pub files_of : List (String Global) → List (List ℕ)
files_of files = map string_bytes files
