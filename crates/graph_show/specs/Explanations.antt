-- What a person is told of the first fault of a graph's text: the faulty line, a mark under a place
-- of it, and what was expected there.
use Rattle.std.specs.Prelude.{◌≡◌, ◌⊎◌, ◌<◌, ◌≤◌, ◌+◌, ◌==◌, ℕ, List, [], ◌∷◌, ◌++◌, length, map, take, replicate, codes, Some, if◌then◌else◌, slice_get}
use Rattle.std.specs.List.{concat}
use Rattle.graph_lang.specs.Reads.{version_of}
use Rattle.graph_lang.specs.declared.fault.FaultKind.{FaultKind}
use Rattle.graph_lang.specs.declared.fault.GraphFault.{GraphFault}
use Rattle.graph_text.specs.Texts.{is_printable, lines_of}
use Rattle.graph_text.specs.declared.version.Version.{Version}
use Rattle.graph_show.specs.Forms.{form_told}

-- a byte as it is shown: one that no line may have is a question mark
abbrev pub shown : ℕ → ℕ
shown b = if is_printable b then b else 63

-- what stands in the line of the mark under a byte before it: a tab under a tab, and else a space
abbrev pub blank_under : ℕ → ℕ
blank_under b = if b == 9 then 9 else 32

-- the line, under it as many marks from a place on, and what was expected there
abbrev pub marked_text : List ℕ → ℕ → ℕ → List ℕ → List ℕ
marked_text line start count wanted = concat (
    codes "  " ∷ map shown line ∷ codes "\n  "
    ∷ map blank_under (take start line) ∷ replicate count 94
    ∷ codes "\n  expected: " ∷ wanted ∷ codes "\n" ∷ [])

-- the text explains a fault of this line: some place of the line is marked
pub record Marks (line more : List ℕ) : Type 0 where
  pub start : ℕ
  pub count : ℕ
  pub wanted : List ℕ
  pub inside : start ≤ length line
  pub is : more ≡ marked_text line start count wanted

-- it does, and where the fault of this kind is one of the grammar, the form of such a line in a
-- text of this version stands behind that
pub record ExplainsKind (version : Version) (kind : FaultKind) (line more : List ℕ) : Type 0 where
  pub front : List ℕ
  pub marks : Marks line front
  pub is : more ≡ front ++ form_told version kind line

-- the text explains this fault of a graph's text, by the line of the fault
pub record ExplainsLine (text : List ℕ) (found : GraphFault) (more : List ℕ) : Type 0 where
  pub index : ℕ
  pub line : List ℕ
  pub numbered : index + 1 ≡ found.line
  pub line_is : slice_get (lines_of text) index ≡ Some line
  pub explains : ExplainsKind (version_of (lines_of text)) found.kind line more

-- the text explains this fault, or is nothing where the graph's text has no line of that number
abbrev pub ExplainsFault : List ℕ → GraphFault → List ℕ → Type 0
ExplainsFault text found more = ExplainsLine text found more
    ⊎ ((more ≡ []) × ((found.line ≡ 0) ⊎ (length (lines_of text) < found.line)))
