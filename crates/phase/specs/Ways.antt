-- Which command the words of the program are for.
use Rattle.std.specs.Prelude.{List, [], ◌∷◌, ◌&&◌, ◌||◌, Bool, true, false, codes, take, if◌then◌else◌}
use Rattle.std.specs.List.{list_any}
use Rattle.std.specs.Str.{bytes_eq}
use Rattle.clap.specs.Words.{Text}

-- the command that words are for: `run` or `stream` with words of its own, `eval` by workers with
-- those behind its name, or one of the others, which read all the words
pub data Way : Type 0 where
  run : List Text → Way
  stream : List Text → Way
  by_workers : List Text → Way
  others : Way

-- the command of a name, with words of its own
abbrev pub way_named : Text → List Text → Way
way_named name own =
    if bytes_eq name (codes "run") then run own
    else if bytes_eq name (codes "stream") then stream own
    else others

-- the command on which help is asked for, by the words behind `help`: the first is its name
abbrev pub way_helped : List Text → Way
way_helped [] = others
way_helped (name ∷ more) = way_named name (codes "--help" ∷ [])

-- a word names workers: it is `--workers`, or begins with that and a `=`
abbrev pub names_workers : Text → Bool
names_workers word =
    bytes_eq word (codes "--workers") || bytes_eq (take 10 word) (codes "--workers=")

-- the words are for `eval`, and one of those behind its name names workers
abbrev pub is_by_workers : Text → List Text → Bool
is_by_workers first behind = bytes_eq first (codes "eval") && list_any names_workers behind

-- the command that the words are for: the first is its name, or `help`, and what stands behind its
-- name are its own
abbrev pub way_of : List Text → Way
way_of [] = others
way_of (first ∷ behind) =
    if bytes_eq first (codes "help") then way_helped behind
    else if is_by_workers first behind then by_workers behind
    else way_named first behind

-- the words are none, or `replay` alone
abbrev pub is_bare : List Text → Bool
is_bare [] = true
is_bare (word ∷ []) = bytes_eq word (codes "replay")
is_bare (first ∷ second ∷ more) = false
