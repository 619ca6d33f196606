-- Which file is opened of a name, where files are opened beside another.
use Rattle.std.specs.Prelude.{◌≡◌, ℕ, ◌==◌, ◌||◌, Bool, true, false, List, [], ◌∷◌, ◌++◌, Option, None, String, codes, get_or, option_map, string_bytes, unwrap_or, if◌then◌else◌}
use Rattle.std.specs.List.{list_any}
use Rattle.std.specs.Str.{bytes_eq}
use Rattle.std.specs.Global.{Global}
use Rattle.graph_commands.specs.FileJobs.{Known}
use Rattle.graph_commands.specs.declared.refused.Origin.{Origin}
use Rattle.graph_commands.specs.declared.refused.Origin.TheVariants as origin

-- the byte is a `/`
abbrev pub is_slash : ℕ → Bool
is_slash b = b == 47

-- the folder of a file: its name up to the last `/`, and that, or nothing
abbrev pub folder_of : List ℕ → List ℕ
folder_of [] = []
folder_of (b ∷ bs) = if list_any is_slash (b ∷ bs) then b ∷ folder_of bs else []

-- a name that stands for itself: `-`, or one from the root
abbrev pub is_whole : List ℕ → Bool
is_whole name = bytes_eq name (codes "-") || is_slash (get_or name 0 0)

-- the file that is opened of a name: one in the folder of the file, but for a name that stands for
-- itself, and that of the file
abbrev pub beside : List ℕ → List ℕ → List ℕ
beside file name =
    if bytes_eq name file || is_whole name then name else folder_of file ++ name

-- what is known of the files that are opened so, or of those of their names
abbrev pub known_by : Bool → List ℕ → Known → Known
known_by true file known = λ name. known (beside file name)
known_by false file known = known

-- the name under which a file of this name is opened by where files are opened: another, or its own
abbrev pub IsOpenedAs : Origin → List ℕ → Option (String Global) → Type 0
IsOpenedAs origin.Here name path = path ≡ None
IsOpenedAs (origin.Beside file) name path =
    unwrap_or (option_map string_bytes path) name ≡ beside (string_bytes file) name
IsOpenedAs origin.Lost name path = ⊥
