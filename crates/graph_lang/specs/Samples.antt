-- Which texts are samples.
use Rattle.std.specs.Prelude.{ℕ, ◌≡◌, ◌+◌, ◌≤◌, List, [], ◌∷◌, ◌++◌, length, map, ℤ}
use Rattle.std.specs.Fmt.{signed_decimal}
use Rattle.csv.specs.Reading.{default_config, strip_bom, AreRecords, Reached}
use Rattle.csv.specs.declared.parser.State.{State}
use Rattle.csv.specs.declared.parser.State.TheVariants as st
use Rattle.phase_accum.specs.Sends.{IsSend, AreSends}
use Rattle.std.specs.declared.option.Option.{Option}
use Rattle.watched_io.specs.Files.{HasBytes}
use Rattle.watched_io.specs.States.{ReaderState, ReadsAll}
use Rattle.graph_lang.specs.declared.sample.TheConstants.{TEXT_MAX}

-- the record of a value: one field, with the value in decimal
abbrev pub row_of : ℤ → List (List ℕ)
row_of v = signed_decimal v ∷ []

-- the records of the text are those of the values, one for each
pub record AreRecordsOfValues (text : List ℕ) (values : List ℤ) : Type 0 where
  pub sends : AreSends values
  pub records : AreRecords default_config st.StartRecord (strip_bom text) (map row_of values)

-- the text begins with these records
abbrev pub BeginsWith : List ℕ → List (List (List ℕ)) → Type 0
BeginsWith text rows = (s : State) × (rest : List ℕ)
    × Reached default_config st.StartRecord (strip_bom text) rows s rest

-- record number n, counted from 1, is the first that is not of a value
pub record IsBadSample (text : List ℕ) (n : ℕ) : Type 0 where
  pub good : List ℤ
  pub row : List (List ℕ)
  pub number : n ≡ length good + 1
  pub sends : AreSends good
  pub begins : BeginsWith text (map row_of good ++ row ∷ [])
  pub other : (v : ℤ) → IsSend v → row ≡ row_of v → ⊥

-- the values are those of a text that is short enough
pub record AreShortSamples (values : List ℤ) (text : List ℕ) : Type 0 where
  pub samples : AreRecordsOfValues text values
  pub short : length text ≤ TEXT_MAX

-- record number n is the first that is not of a value, in a text that is short enough
pub record IsBadShortSample (n : ℕ) (text : List ℕ) : Type 0 where
  pub bad : IsBadSample text n
  pub short : length text ≤ TEXT_MAX

-- the reader gave a whole text, of these values
pub record ReadsSamples (old new : ReaderState) (values : List ℤ) : Type 0 where
  pub text : List ℕ
  pub reads : ReadsAll TEXT_MAX old new text
  pub samples : AreRecordsOfValues text values

-- the reader gave a whole text, whose record number n is the first that is not of a value
pub record ReadsBadSample (old new : ReaderState) (n : ℕ) : Type 0 where
  pub text : List ℕ
  pub reads : ReadsAll TEXT_MAX old new text
  pub bad : IsBadSample text n

-- the values are the samples of the file's text, or of some text where nothing is known of the file
pub record AreSamplesOf (known : Option (List ℕ)) (values : List ℤ) : Type 0 where
  pub text : List ℕ
  pub bytes : HasBytes known text
  pub samples : AreShortSamples values text

-- record number n is the first of such a text that is not of a value
pub record HasBadSample (known : Option (List ℕ)) (n : ℕ) : Type 0 where
  pub text : List ℕ
  pub bytes : HasBytes known text
  pub bad : IsBadShortSample n text
