-- A reader of samples whose text comes in pieces, as contracts see it.
use Rattle.std.specs.Prelude.{◌≡◌, ◌+◌, ◌≤◌, ℕ, ℤ, Bool, true, false, List, [], ◌∷◌, ◌++◌, length, map, ⊤, ◌<◌, ◌&&◌, nat_lt, take}
use Rattle.csv.specs.declared.parser.Action.{Action}
use Rattle.csv.specs.declared.parser.Action.TheVariants as act
use Rattle.csv.specs.declared.parser.State.{State}
use Rattle.csv.specs.declared.parser.State.TheVariants as st
use Rattle.csv.specs.Reading.{strip_bom}
use Rattle.std.specs.Fmt.{signed_decimal}
use Rattle.phase_accum.specs.Sends.{IsSend, AreSends}
use Rattle.graph_lang.specs.Samples.{row_of, AreRecordsOfValues, IsBadSample}
use Rattle.sample_pieces.specs.Scans.{nothing_read, scan_on}
use Rattle.sample_pieces.specs.declared.step.Where.{Where}
use Rattle.sample_pieces.specs.declared.step.Where.TheVariants as place
use Rattle.sample_pieces.specs.declared.step.Move.{Move}
use Rattle.sample_pieces.specs.declared.step.Move.TheVariants as byte
use Rattle.sample_pieces.specs.declared.reader.Found.{Found}
use Rattle.sample_pieces.specs.declared.reader.Found.TheVariants as found
use Rattle.sample_pieces.specs.declared.reader.SampleReader.{SampleReader}

-- where csv stands
abbrev pub csv_state : Where → State
csv_state place.Between = st.StartRecord
csv_state place.AfterReturn = st.AfterCr
csv_state place.Field = st.InField
csv_state place.Quotes = st.InQuoted
csv_state place.AfterQuote = st.AfterQuote

-- what a byte does, as csv tells it
abbrev pub done_by : Move → State × Action
done_by (byte.Skips to) = (csv_state to, act.Skip)
done_by (byte.Copies to) = (csv_state to, act.Copy)
done_by (byte.Ends to) = (csv_state to, act.EndRecord)
done_by byte.Separates = (st.StartField, act.EndField)

-- within a record
abbrev pub IsField : Where → Type 0
IsField place.Between = ⊥
IsField place.AfterReturn = ⊥
IsField place.Field = ⊤
IsField place.Quotes = ⊤
IsField place.AfterQuote = ⊤

-- a byte that is copied is of a record, and only such a one is of a byte order mark
abbrev pub IsSignUnlessCopied : ℕ → Move → Type 0
IsSignUnlessCopied c (byte.Copies to) = IsField to
IsSignUnlessCopied c (byte.Skips to) = c < 128
IsSignUnlessCopied c (byte.Ends to) = c < 128
IsSignUnlessCopied c byte.Separates = c < 128

-- the text has no byte order mark that is not told apart yet, whatever bytes come behind it
abbrev pub IsMarked : List ℕ → Type 0
IsMarked text = (more : List ℕ) → strip_bom (text ++ more) ≡ strip_bom text ++ more

-- the text has given these values, each a record, and the reader stands where it ends
pub record HasRead (text : List ℕ) (values : List ℤ) (reader : SampleReader) : Type 0 where
  pub sends : AreSends values
  pub scan : scan_on nothing_read (strip_bom text) ≡ record {
    rows = map row_of values;
    state = csv_state reader.at;
    fields = [];
    field = reader.field.items;
  }
  pub first : reader.is_first ≡ true
      → (text ≡ reader.field.items) × (length text ≤ 2) × (values ≡ [])
  pub marked : reader.is_first ≡ false → IsMarked text

-- in each text that goes on so, record number n is the first that is not of a value
abbrev pub IsBadFrom : List ℕ → ℕ → Type 0
IsBadFrom text n = (more : List ℕ) → IsBadSample (text ++ more) n

-- what was found in the byte behind a text
abbrev pub Finds : List ℕ → List ℤ → SampleReader → Found → Type 0
Finds text values reader found.Nothing = HasRead text values reader
Finds text values reader (found.Value v) = HasRead text (values ++ v ∷ []) reader
Finds text values reader found.Bad = IsBadFrom text (length values + 1)

-- the text begins with this number and a line feed, of so many bytes
pub record BeginsWithNumber (text : List ℕ) (value : ℤ) (size : ℕ) : Type 0 where
  pub send : IsSend value
  pub within : size ≤ length text
  pub line_is : take size text ≡ signed_decimal value ++ 10 ∷ []

-- what a piece came to: all values of the text as far as it was read, or a bad record behind them
abbrev pub TakesPiece : Bool → List ℕ → List ℤ → SampleReader → Type 0
TakesPiece false text values reader = HasRead text values reader
TakesPiece true text values reader = AreSends values × IsBadFrom text (length values + 1)

-- what was found at the end of a text
abbrev pub FindsLast : List ℕ → List ℤ → Found → Type 0
FindsLast text values found.Nothing = AreRecordsOfValues text values
FindsLast text values (found.Value v) = AreRecordsOfValues text (values ++ v ∷ [])
FindsLast text values found.Bad = IsBadSample text (length values + 1)

-- what a field is
abbrev pub FindsField : List ℕ → Found → Type 0
FindsField field found.Nothing = ⊥
FindsField field (found.Value v) = (field ≡ signed_decimal v) × IsSend v
FindsField field found.Bad = (v : ℤ) → IsSend v → field ≡ signed_decimal v → ⊥

-- whether the byte ends a byte order mark in front of the text
abbrev pub EndsMark : Bool → List ℕ → ℕ → Bool → Type 0
EndsMark is_first field c true = (is_first ≡ true) × (field ≡ 239 ∷ 187 ∷ []) × (c ≡ 191)
EndsMark is_first field c false = is_first ≡ true → field ≡ 239 ∷ 187 ∷ [] → c ≡ 191 → ⊥

-- a byte of the field: it is behind the others, where there is room for it
abbrev pub Copies : Where → ℕ → SampleReader → SampleReader → Found → Type 0
Copies to c old new found.Nothing = (new.at ≡ to)
    × (new.field.items ≡ old.field.items ++ c ∷ [])
    × (new.is_first ≡ old.is_first && nat_lt (length new.field.items) 3)
Copies to c old new (found.Value v) = ⊥
Copies to c old new found.Bad = length old.field.items ≡ 20
