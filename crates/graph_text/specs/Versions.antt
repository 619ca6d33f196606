-- The heading of a text, which tells its version, and what only the later versions have.
use Rattle.std.specs.Prelude.{Bool, true, false, ◌&&◌, ◌||◌, not, List, [], ◌∷◌, Option, Some, None, codes, if◌then◌else◌}
use Rattle.std.specs.Str.{bytes_eq}
use Rattle.phase_base.specs.Words.{Word, is_name}
use Rattle.graph_text.specs.declared.version.Version.{Version}
use Rattle.graph_text.specs.declared.version.Version.TheVariants.{One, Two, Three}

-- the version that the words of a line tell, where they are `graph` and `2` or `3`
abbrev pub heading_of : List Word → Option Version
heading_of (first ∷ second ∷ []) =
    if bytes_eq first (codes "graph") && bytes_eq second (codes "2") then Some Two
    else if bytes_eq first (codes "graph") && bytes_eq second (codes "3") then Some Three
    else None
heading_of words = None

-- whether a text of this version may have blocks, and sinks that join now
abbrev pub has_second : Version → Bool
has_second One = false
has_second Two = true
has_second Three = true

-- whether a text of this version may have delays, decimators, and filters that do more than weigh
abbrev pub has_third : Version → Bool
has_third One = false
has_third Two = false
has_third Three = true

-- a word that has a meaning in the third version alone
abbrev pub is_third_word : Word → Bool
is_third_word word = bytes_eq word (codes "delay") || bytes_eq word (codes "of")
    || bytes_eq word (codes "plus") || bytes_eq word (codes "decimate")
    || bytes_eq word (codes "expand") || bytes_eq word (codes "every")
    || bytes_eq word (codes "again")

-- whether a line of this version may declare this name
abbrev pub may_declare : Version → Word → Bool
may_declare version word = is_name word && not (has_third version && is_third_word word)
