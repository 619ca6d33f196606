-- What a line declares, and the one way in which its words spell it. Names, files and numbers stand
-- as they are written. A text of the second version may have more ends, and one of the third also
-- delays, decimators and filters that do more than weigh.
use Rattle.std.specs.Prelude.{ℕ, ◌≡◌, ◌≤◌, Bool, true, false, List, [], ◌∷◌, ◌++◌, length, Option, Some, None, IsTrue, IfSome, codes, if◌then◌else◌}
use Rattle.std.specs.List.{list_all}
use Rattle.phase_base.specs.Words.{Word, is_name, is_file}
use Rattle.graph_text.specs.Texts.{words_of_line, are_printable}
use Rattle.phase_base.specs.OperationWords.{operation_word}
use Rattle.phase_base.specs.declared.operation.Op.{Op}
use Rattle.phase_base.specs.Numbers.{is_nat, is_int}
use Rattle.graph_text.specs.declared.version.Version.{Version}
use Rattle.graph_text.specs.Versions.{has_second, has_third, may_declare}

-- ---- what a line declares

-- the function of a single
pub data FunctionWords : Type 0 where
  neg : FunctionWords
  abs : FunctionWords
  halve : FunctionWords
  clamp : (low high : Word) → FunctionWords

-- the parent of a task, after how many of its steps it registers the task, and whether the task
-- joins now
pub record ByWords : Type 0 where
  pub parent : Word
  pub at : Word
  pub now : Bool

-- the optional ends of a task's line
pub record EndWords : Type 0 where
  pub by : Option ByWords
  pub until : Option Word
  pub block : Option Word

-- what a filter does: how old the newest sample is that it weighs, the shift, what is added, the
-- taps, those that weigh what it put, and what is applied to each output
pub record FilterWords : Type 0 where
  pub delay : Option Word
  pub shift : Word
  pub plus : Option Word
  pub taps : List Word
  pub again : List Word
  pub single : Option FunctionWords

-- what a task does, with its phasers
pub data BodyWords : Type 0 where
  source : (file output : Word) → BodyWords
  fir : (input output : Word) (filter : FilterWords) → BodyWords
  delay : (input output steps : Word) → BodyWords
  decimate : (input output every : Word) → BodyWords
  split : (input : Word) (outputs : List Word) → BodyWords
  join : (inputs : List Word) (output : Word) → BodyWords
  peer : (input exchange output factor : Word) → BodyWords
  sink : (input : Word) → BodyWords

-- what a line declares: a phaser, or a task
pub data Decl : Type 0 where
  phaser : (name : Word) (operation : Op) (bound : Word) (single : Option FunctionWords) → Decl
  task : (name : Word) (body : BodyWords) (ends : EndWords) → Decl

-- ---- how it is spelled

-- the words of a function
abbrev pub function_words : FunctionWords → List Word
function_words neg = codes "neg" ∷ []
function_words abs = codes "abs" ∷ []
function_words halve = codes "halve" ∷ []
function_words (clamp low high) = codes "clamp" ∷ low ∷ high ∷ []

-- the words of a single, where there is one
abbrev pub single_words : Option FunctionWords → List Word
single_words None = []
single_words (Some function) = codes "single" ∷ function_words function

-- the word of a task that joins now
abbrev pub now_words : Bool → List Word
now_words now = if now then codes "now" ∷ [] else []

-- the words that name a parent, where there is one
abbrev pub by_words : Option ByWords → List Word
by_words None = []
by_words (Some by) = codes "by" ∷ by.parent ∷ codes "at" ∷ by.at ∷ now_words by.now

-- the words of the last boundary, where there is one
abbrev pub until_words : Option Word → List Word
until_words None = []
until_words (Some steps) = codes "until" ∷ steps ∷ []

-- the word of the steps of a block, where there is one
abbrev pub block_words : Option Word → List Word
block_words None = []
block_words (Some steps) = (codes "block=" ++ steps) ∷ []

-- the words of the ends
abbrev pub end_words : EndWords → List Word
end_words ends = by_words ends.by ++ (until_words ends.until ++ block_words ends.block)

-- a number behind its sign, where there is one
abbrev pub signed_words : Word → Option Word → List Word
signed_words sign None = []
signed_words sign (Some number) = sign ∷ number ∷ []

-- the taps that weigh what a filter put, where there are some
abbrev pub again_words : List Word → List Word
again_words [] = []
again_words (tap ∷ taps) = codes "again" ∷ tap ∷ taps

-- the words of a filter behind its taps
abbrev pub behind_taps : FilterWords → List Word
behind_taps filter = again_words filter.again ++ single_words filter.single

-- the words of a filter behind its phasers
abbrev pub filter_words : FilterWords → List Word
filter_words filter =
    signed_words (codes "of") filter.delay ++ codes "shift" ∷ filter.shift
    ∷ (signed_words (codes "plus") filter.plus
    ++ codes "taps" ∷ (filter.taps ++ behind_taps filter))

-- the first word of the line
abbrev pub body_word : BodyWords → Word
body_word (source file output) = codes "source"
body_word (fir input output filter) = codes "fir"
body_word (delay input output steps) = codes "delay"
body_word (decimate input output every) = codes "decimate"
body_word (split input outputs) = codes "split"
body_word (join inputs output) = codes "join"
body_word (peer input exchange output factor) = codes "peer"
body_word (sink input) = codes "sink"

-- the words between the name and the ends
abbrev pub body_words : BodyWords → List Word
body_words (source file output) = file ∷ codes "->" ∷ output ∷ []
body_words (fir input output filter) =
    input ∷ codes "->" ∷ output ∷ filter_words filter
body_words (delay input output steps) =
    input ∷ codes "->" ∷ output ∷ codes "of" ∷ steps ∷ []
body_words (decimate input output every) =
    input ∷ codes "->" ∷ output ∷ codes "every" ∷ every ∷ []
body_words (split input outputs) = input ∷ codes "->" ∷ outputs
body_words (join inputs output) = inputs ++ codes "->" ∷ output ∷ []
body_words (peer input exchange output factor) =
    input ∷ codes "<->" ∷ exchange ∷ codes "->" ∷ output ∷ codes "mul" ∷ factor ∷ []
body_words (sink input) = input ∷ []

-- the words of the line
abbrev pub decl_spelling : Decl → List Word
decl_spelling (phaser name operation bound single) =
    codes "phaser" ∷ name ∷ operation_word operation ∷ bound ∷ single_words single
decl_spelling (task name body ends) = body_word body ∷ name ∷ (body_words body ++ end_words ends)

-- ---- which words may stand where

-- the bounds of a clamp are whole numbers
abbrev pub IsFunction : FunctionWords → Type 0
IsFunction neg = Unit {0}
IsFunction abs = Unit {0}
IsFunction halve = Unit {0}
IsFunction (clamp low high) = IsTrue (is_int low) × IsTrue (is_int high)

-- whether a line of the kind may name a parent
abbrev pub may_have_parent : BodyWords → Bool
may_have_parent (source file output) = true
may_have_parent (fir input output filter) = true
may_have_parent (delay input output steps) = true
may_have_parent (decimate input output every) = false
may_have_parent (split input outputs) = false
may_have_parent (join inputs output) = false
may_have_parent (peer input exchange output factor) = false
may_have_parent (sink input) = true

-- at least one word, and each passes the test
abbrev pub AreSome : (Word → Bool) → List Word → Type 0
AreSome test words = (1 ≤ length words) × IsTrue (list_all test words)

-- where there are taps for what a filter put, they are numbers, on a line of the third version
abbrev pub AreAgain : Version → List Word → Type 0
AreAgain version [] = Unit {0}
AreAgain version (tap ∷ taps) =
    IsTrue (list_all is_int (tap ∷ taps)) × IsTrue (has_third version)

-- the numbers of a filter are such, on a line of this version
pub record IsFilter (version : Version) (filter : FilterWords) : Type 0 where
  pub delay : IfSome filter.delay (λ steps. IsTrue (is_nat steps) × IsTrue (has_third version))
  pub shift : IsTrue (is_nat filter.shift)
  pub plus : IfSome filter.plus (λ plus. IsTrue (is_int plus) × IsTrue (has_third version))
  pub taps : AreSome is_int filter.taps
  pub again : AreAgain version filter.again
  pub single : IfSome filter.single (λ single. IsFunction single × IsTrue (has_third version))

-- the names, files and numbers of what a task does are such, on a line of this version
abbrev pub IsBody : Version → BodyWords → Type 0
IsBody version (source file output) = IsTrue (is_file file) × IsTrue (is_name output)
IsBody version (fir input output filter) =
    IsTrue (is_name input) × IsTrue (is_name output) × IsFilter version filter
IsBody version (delay input output steps) = IsTrue (is_name input) × IsTrue (is_name output)
    × IsTrue (is_nat steps) × IsTrue (has_third version)
IsBody version (decimate input output every) = IsTrue (is_name input) × IsTrue (is_name output)
    × IsTrue (is_nat every) × IsTrue (has_third version)
IsBody version (split input outputs) = IsTrue (is_name input) × AreSome is_name outputs
IsBody version (join inputs output) = AreSome is_name inputs × IsTrue (is_name output)
IsBody version (peer input exchange output factor) = IsTrue (is_name input)
    × IsTrue (is_name exchange) × IsTrue (is_name output) × IsTrue (is_int factor)
IsBody version (sink input) = IsTrue (is_name input)

-- whether a line of this version, of this kind, may say that its task joins now
abbrev pub may_join_now : Version → BodyWords → Bool
may_join_now version (source file output) = false
may_join_now version (fir input output filter) = false
may_join_now version (delay input output steps) = false
may_join_now version (decimate input output every) = false
may_join_now version (split input outputs) = false
may_join_now version (join inputs output) = false
may_join_now version (peer input exchange output factor) = false
may_join_now version (sink input) = has_second version

-- whether a line of this version, of this kind, may say how many steps a block has
abbrev pub may_have_blocks : Version → BodyWords → Bool
may_have_blocks version (source file output) = has_second version
may_have_blocks version (fir input output filter) = has_second version
may_have_blocks version (delay input output steps) = has_second version
may_have_blocks version (decimate input output every) = false
may_have_blocks version (split input outputs) = false
may_have_blocks version (join inputs output) = false
may_have_blocks version (peer input exchange output factor) = false
may_have_blocks version (sink input) = has_second version

-- a parent is named, and the count of its steps is a number
abbrev pub IsBy : ByWords → Type 0
IsBy by = IsTrue (is_name by.parent) × IsTrue (is_nat by.at)

-- a line of this version, of this kind, may have this parent
abbrev pub MayHaveBy : Version → BodyWords → ByWords → Type 0
MayHaveBy version body by =
    IsTrue (may_have_parent body) × (IsTrue by.now → IsTrue (may_join_now version body))

-- the ends of a line of this version, of this kind
pub record AreEnds (version : Version) (body : BodyWords) (ends : EndWords) : Type 0 where
  pub by : IfSome ends.by (λ by. IsBy by × MayHaveBy version body by)
  pub until : IfSome ends.until (λ steps. IsTrue (is_nat steps))
  pub block : IfSome ends.block (λ steps.
      IsTrue (is_nat steps) × IsTrue (may_have_blocks version body))

-- names are names, of which the declared one passes this test, numbers are numbers, and so on, on a
-- line of this version
abbrev pub IsWellFormedBy : (Word → Bool) → Version → Decl → Type 0
IsWellFormedBy declares version (phaser name operation bound single) =
    IsTrue (declares name) × IsTrue (is_nat bound) × IfSome single IsFunction
IsWellFormedBy declares version (task name body ends) =
    IsTrue (declares name) × IsBody version body × AreEnds version body ends

-- the declared name is one that a line of this version may declare
abbrev pub IsWellFormed : Version → Decl → Type 0
IsWellFormed version d = IsWellFormedBy (may_declare version) version d

-- the words spell what is declared, in a text of this version
pub record Spells (version : Version) (words : List Word) (d : Decl) : Type 0 where
  pub well_formed : IsWellFormed version d
  pub spelled : words ≡ decl_spelling d

-- the line is one of the grammar of this version, and declares d
pub record Declares (version : Version) (line : List ℕ) (d : Decl) : Type 0 where
  pub printable : are_printable line ≡ true
  pub spells : Spells version (words_of_line line) d
