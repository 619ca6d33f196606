-- What a text declares, line by line in the version that its heading tells, and which fault is its
-- first.
use Rattle.std.specs.Prelude.{if◌then◌else◌, ℕ, ◌≡◌, ◌+◌, true, false, List, [], ◌∷◌, ◌++◌, length, Option, Some, None, is_some, Result, Ok, Err, ◌⊎◌}
use Rattle.graph_text.specs.Texts.{words_of_line, is_ignored}
use Rattle.graph_text.specs.Versions.{heading_of}
use Rattle.graph_text.specs.declared.version.Version.{Version}
use Rattle.graph_text.specs.declared.version.Version.TheVariants.{One}
use Rattle.graph_text.specs.Decls.{Decl, phaser, task, Declares}
use Rattle.graph_base.specs.Graphs.{Graph, no_graph}
use Rattle.graph_lang.specs.WordValues.{phaser_line, task_line, files_in}
use Rattle.graph_lang.specs.Faults.{kind_of}
use Rattle.graph_lang.specs.declared.fault.FaultKind.{FaultKind}
use Rattle.graph_lang.specs.declared.fault.FaultKind.TheVariants.{Syntax}
use Rattle.graph_lang.specs.declared.fault.GraphFault.{GraphFault}
use Rattle.graph_lang.specs.declared.fault.GraphRefusal.{GraphRefusal}
use Rattle.graph_lang.specs.declared.fault.GraphRefusal.TheVariants as refusal
use Rattle.graph_base.specs.declared.place.Place.TheVariants as place

-- ---- the version

-- the version that a heading tells, or the first where there is none
abbrev pub or_one : Option Version → Version
or_one None = One
or_one (Some version) = version

-- the version of a text, which the first of its lines that is not ignored tells where it is a
-- heading
abbrev pub version_of : List (List ℕ) → Version
version_of [] = One
version_of (line ∷ lines) =
    if is_ignored line then version_of lines
    else or_one (heading_of (words_of_line line))

-- an empty line, which is ignored, in the place of a heading
abbrev pub emptied : List ℕ → List ℕ
emptied line = if is_some (heading_of (words_of_line line)) then [] else line

-- the lines of a text, with an empty one in the place of its heading
abbrev pub without_heading : List (List ℕ) → List (List ℕ)
without_heading [] = []
without_heading (line ∷ lines) =
    if is_ignored line then line ∷ without_heading lines else emptied line ∷ lines

-- ---- the lines

-- the graph with what line n declares
abbrev pub with_declared : Graph → ℕ → Decl → Graph
with_declared before n (phaser name operation bound single) = record {
  names = before.names ++ (name, place.Phaser (length before.phasers)) ∷ [];
  phasers = before.phasers ++ phaser_line operation bound single ∷ [];
  tasks = before.tasks;
  files = before.files;
}
with_declared before n (task name body ends) = record {
  names = before.names ++ (name, place.Task (length before.tasks)) ∷ [];
  phasers = before.phasers;
  tasks = before.tasks ++ task_line before.names n body ends ∷ [];
  files = before.files ++ files_in body;
}

-- line n has a fault of this kind
abbrev pub fault_at : ℕ → FaultKind → Result Graph GraphFault
fault_at n kind = Err (record { line = n; kind = kind })

-- what line n of the grammar comes to, by its first kind of fault
abbrev pub line_outcome : ℕ → Graph → Decl → Option FaultKind → Result Graph GraphFault
line_outcome n before d (Some kind) = fault_at n kind
line_outcome n before d None = Ok (with_declared before n d)

-- line n of a text of this version, after the lines above it: it is ignored, or it is not in the
-- grammar, or it declares d
abbrev pub Steps : Version → ℕ → Graph → List ℕ → Result Graph GraphFault → Type 0
Steps version n before line outcome =
    ((is_ignored line ≡ true) × (outcome ≡ Ok before))
    ⊎ ((is_ignored line ≡ false) × ((d : Decl) → ¬ (Declares version line d))
    × (outcome ≡ fault_at n Syntax))
    ⊎ ((is_ignored line ≡ false) × (d : Decl) × Declares version line d
    × (outcome ≡ line_outcome n before d (kind_of version before d)))

-- the lines from number n on, after the lines above them: the graph that all of them declare, or
-- the first fault
abbrev pub Reads : Version → ℕ → Graph → List (List ℕ) → Result Graph GraphFault → Type 0
Reads version n before [] outcome = outcome ≡ Ok before
Reads version n before (line ∷ lines) outcome =
    ((f : GraphFault) × Steps version n before line (Err f) × (outcome ≡ Err f))
    ⊎ ((after : Graph) × Steps version n before line (Ok after)
    × Reads version (n + 1) after lines outcome)

-- a text of these lines, read in its version, but for its heading
abbrev pub ReadsText : List (List ℕ) → Result Graph GraphFault → Type 0
ReadsText lines outcome =
    Reads (version_of lines) 1 no_graph (without_heading lines) outcome

-- the graph that the lines of a text declare, or their first fault, unless memory ran out
abbrev pub Tells : List (List ℕ) → Result Graph GraphRefusal → Type 0
Tells lines (Ok graph) = ReadsText lines (Ok graph)
Tells lines (Err (refusal.Fault f)) = ReadsText lines (Err f)
Tells lines (Err refusal.OutOfMemory) = Unit {0}
