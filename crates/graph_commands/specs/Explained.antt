-- What is said further to a person where the fault of a graph's file is explained.
use Rattle.std.specs.Prelude.{◌≡◌, ◌⊎◌, ◌≤◌, ◌++◌, ℕ, List, Vec, [], length, map, codes, decimal, ⊤, IsSomeAnd}
use Rattle.std.specs.Global.{Global}
use Rattle.std.specs.List.{flat_map}
use Rattle.std.specs.declared.option.Option.{Option}
use Rattle.graph_commands.specs.declared.fault.JobFault.{JobFault}
use Rattle.graph_commands.specs.declared.fault.JobFault.TheVariants as fault
use Rattle.graph_commands.specs.declared.graph_file.TheConstants.{GRAPH_MAX}
use Rattle.graph_commands.specs.Records.{IsStart, line_at, shown_at, shown_of}
use Rattle.graph_show.specs.Explanations.{ExplainsFault, shown}
use Rattle.watched_io.specs.Files.{HasBytes}

-- the text is that of the file of this name
pub record IsTextOf (known : List ℕ → Option (List ℕ)) (name text : List ℕ) : Type 0 where
  pub bytes : HasBytes (known name) text
  pub short : length text ≤ GRAPH_MAX

-- the fault is explained by the text of the graph's file
abbrev pub IsOfText : JobFault → Type 0
IsOfText (fault.Graph found) = ⊤
IsOfText (fault.BadSample name number told) = ⊤
IsOfText fault.ReadFault = ⊥
IsOfText fault.OutOfMemory = ⊥

-- ---- what is said further

-- a line for a person: two spaces, and this text as it is shown
abbrev pub further_line : List ℕ → List ℕ
further_line text = codes "  " ++ map shown text ++ codes "\n"

-- the text is such lines, or nothing
pub record AreFurtherLines (more : List ℕ) : Type 0 where
  pub texts : List (List ℕ)
  pub are : more ≡ flat_map further_line texts

-- what a sample is
abbrev pub record_wanted : List ℕ
record_wanted =
    codes "  expected: one whole number, from -9223372036854775807 to 9223372036854775807\n"

-- the line of the record of this number in a text, and the front of the record
pub record TellsLine (samples : List ℕ) (number : ℕ) (place : List ℕ) : Type 0 where
  pub at : ℕ
  pub start : IsStart samples number at
  pub is : place ≡ codes ", line " ++ decimal (line_at samples at) ++ codes ": "
      ++ shown_at samples at

-- a text has no record of this number
abbrev pub HasNoRecord : List ℕ → ℕ → Type 0
HasNoRecord samples number = (at : ℕ) → IsStart samples number at → ⊥

-- its line is told, or nothing, where there is no such record
abbrev pub IsPlaceTold : List ℕ → ℕ → List ℕ → Type 0
IsPlaceTold samples number place =
    TellsLine samples number place ⊎ ((place ≡ []) × HasNoRecord samples number)

-- a line with the file of the text, the number of the record and its place, and further ones
pub record TellsPlace (samples file : List ℕ) (number : ℕ) (front : List ℕ) : Type 0 where
  pub place : List ℕ
  pub place_is : IsPlaceTold samples number place
  pub more : List ℕ
  pub more_are : AreFurtherLines more
  pub is : front ≡ further_line (file ++ codes ", record " ++ decimal number ++ place) ++ more

-- the record of this number and line that the text begins with: a line with its file and these, and
-- with the front of the record, and further ones
pub record TellsFrom (text file : List ℕ) (number line : ℕ) (front : List ℕ) : Type 0 where
  pub more : List ℕ
  pub more_are : AreFurtherLines more
  pub is : front ≡ further_line (file ++ codes ", record " ++ decimal number
      ++ (codes ", line " ++ decimal line ++ codes ": " ++ shown_of text)) ++ more

-- what was told of a record, and what a sample is
abbrev pub TellsRecord : Option (Vec ℕ Global) → List ℕ → Type 0
TellsRecord told more = IsSomeAnd told (λ front. more ≡ front.items ++ record_wanted)

-- the name of a file, and why it was refused
pub record TellsRefusal (more : List ℕ) : Type 0 where
  pub file : List ℕ
  pub why : List ℕ
  pub is : more ≡ codes "  " ++ file ++ codes ": " ++ why ++ codes "\n"

-- the text explains a fault; of the graph, by the line of that. Of a file that was refused it says
-- nothing where no more is known, and nothing of want of memory
abbrev pub Tells : List ℕ → JobFault → List ℕ → Type 0
Tells text (fault.Graph found) more = ExplainsFault text found more
Tells text (fault.BadSample name number told) more = TellsRecord told more
Tells text fault.ReadFault more = (more ≡ []) ⊎ TellsRefusal more
Tells text fault.OutOfMemory more = more ≡ []

-- what is said where memory runs out over that
abbrev pub no_memory_line : List ℕ
no_memory_line = codes "  no memory to explain it\n"
