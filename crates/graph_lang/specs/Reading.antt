-- What the code keeps while it reads a graph: the numbers of a line, and what a line comes to.
use Rattle.std.specs.Prelude.{◌≡◌, option_map, ℕ, not, List, [], ◌∷◌, Option, Some, None, is_some, Result, Ok, Err, if◌then◌else◌}
use Rattle.phase_base.specs.Numbers.{nat_value}
use Rattle.graph_text.specs.Decls.{BodyWords, EndWords, Decl}
use Rattle.graph_text.specs.Texts.{words_of_line, is_ignored}
use Rattle.graph_text.specs.Versions.{heading_of}
use Rattle.graph_text.specs.declared.version.Version.{Version}
use Rattle.graph_text.specs.declared.version.Version.TheVariants.{One}
use Rattle.phase_base.specs.Words.{Word}
use Rattle.phase_base.specs.Lists.{first_row}
use Rattle.graph_base.specs.Graphs.{Graph, Task}
use Rattle.graph_lang.specs.WordValues.{taps_of, filter_form, factor_of, every_of, block_of}
use Rattle.graph_lang.specs.declared.within.Numbers.{Numbers}
use Rattle.graph_lang.specs.declared.within.EndNumbers.{EndNumbers}
use Rattle.graph_lang.specs.Faults.{is_in_order, may_be_parent, is_held, is_block_within, kind_of}
use Rattle.graph_lang.specs.declared.fault.FaultKind.{FaultKind}
use Rattle.graph_lang.specs.declared.fault.FaultKind.TheVariants.{OutBeforeIn, BadParent, NotHeld, OverBound}
use Rattle.graph_lang.specs.Reads.{or_one, version_of, emptied, without_heading, line_outcome, Steps, Reads}
use Rattle.graph_lang.specs.declared.fault.GraphFault.{GraphFault}
use Rattle.graph_lang.specs.declared.fault.GraphRefusal.{GraphRefusal}
use Rattle.graph_lang.specs.declared.fault.GraphRefusal.TheVariants as refusal

-- the numbers are those that the words of a task write
pub record AreNumbersOf (numbers : Numbers) (body : BodyWords) : Type 0 where
  pub taps : numbers.taps.items ≡ taps_of body
  pub form : numbers.form ≡ filter_form body
  pub factor : numbers.factor ≡ factor_of body
  pub every : numbers.every ≡ every_of body

-- the numbers that the words behind a task's phasers write
abbrev pub steps_in : EndWords → EndNumbers
steps_in ends = record {
  at = option_map (λ by. nat_value by.at) ends.by;
  until = option_map nat_value ends.until;
  block = block_of ends.block;
}

-- the first kind after Unknown of a task's line, of the task
abbrev pub last_kind : Graph → Task → Option FaultKind
last_kind before t = first_row (
    (not (is_in_order t), OutBeforeIn)
    ∷ (not (may_be_parent before t.parent), BadParent)
    ∷ (not (is_held before t), NotHeld)
    ∷ (not (is_block_within before t), OverBound)
    ∷ [])

-- what line n of a text of this version, which declares d, comes to, unless memory ran out
abbrev pub TellsDecl : Version → ℕ → Graph → Decl → Result Graph GraphRefusal → Type 0
TellsDecl version n before d (Ok after) =
    Ok after ≡ line_outcome n before d (kind_of version before d)
TellsDecl version n before d (Err (refusal.Fault f)) =
    Err f ≡ line_outcome n before d (kind_of version before d)
TellsDecl version n before d (Err refusal.OutOfMemory) = Unit {0}

-- why a line stopped the reading of a text of this version, unless memory ran out
abbrev pub TellsFault : Version → ℕ → Graph → List ℕ → GraphRefusal → Type 0
TellsFault version n before line (refusal.Fault f) = Steps version n before line (Err f)
TellsFault version n before line refusal.OutOfMemory = Unit {0}

-- ---- the version, which is known from the first line on that is not ignored

-- the version that is known behind a line, where this one is known above it
abbrev pub version_behind : Option Version → List ℕ → Option Version
version_behind (Some version) line = Some version
version_behind None line =
    if is_ignored line then None else Some (or_one (heading_of (words_of_line line)))

-- the version in which a line of these words is read, where this one is known above it; none of a
-- heading
abbrev pub version_in : Option Version → List Word → Option Version
version_in (Some version) words = Some version
version_in None words = if is_some (heading_of words) then None else Some One

-- the version in which a line is read, where this one is known above it
abbrev pub version_at : Option Version → Version
version_at (Some version) = version
version_at None = One

-- a line, or an empty one in the place of a heading, which may stand where no version is known
abbrev pub line_read : Option Version → List ℕ → List ℕ
line_read (Some version) line = line
line_read None line = emptied line

-- the lines from number n on, after lines above them, where this version is known from those
abbrev pub ReadsOn : Option Version → ℕ → Graph → List (List ℕ) → Result Graph GraphFault → Type 0
ReadsOn (Some version) n before lines outcome = Reads version n before lines outcome
ReadsOn None n before lines outcome =
    Reads (version_of lines) n before (without_heading lines) outcome
