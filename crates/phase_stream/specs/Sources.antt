-- What came of the samples of a source, by what was read of its file.
use Rattle.std.specs.Prelude.{◌≡◌, ◌≤◌, ◌+◌, ◌++◌, ◌==◌, ℕ, ℤ, Bool, true, false, List, [], Option, Some, IfSome, length, slice_get, take, ⊤}
use Rattle.std.specs.List.{count_by}
use Rattle.std.specs.Io.KnownBytes.{Consumes}
use mathlib.Core.List.{IsPrefix}
use Rattle.watched_io.specs.Files.{HasBytes}
use Rattle.watched_io.specs.Watched.{inner_of}
use Rattle.graph_commands.specs.Explained.{TellsFrom}
use Rattle.graph_commands.specs.FileJobs.{Known}
use Rattle.graph_base.specs.Graphs.{file_at}
use Rattle.stream_lists.specs.Jobs.{Job}
use Rattle.stream_job.specs.Streams.{IsSourceAt}
use Rattle.graph_lang.specs.Samples.{AreRecordsOfValues, IsBadSample}
use Rattle.sample_pieces.specs.Pieces.{HasRead}
use Rattle.phase_accum.specs.Sends.{AreSends}
use Rattle.phase_stream.specs.declared.record_text.RecordText.{RecordText}
use Rattle.phase_stream.specs.declared.source.Lack.{Lack}
use Rattle.phase_stream.specs.declared.source.Lack.TheVariants as lack
use Rattle.phase_stream.specs.declared.source.Piece.{Piece}
use Rattle.phase_stream.specs.declared.source.OpenFile.{OpenFile}
use Rattle.phase_stream.specs.declared.source.Source.{Source}
use Rattle.phase_stream.specs.declared.source.TheConstants.{PIECE}

-- ---- what a file tells

-- the text stands at the front of what the file holds, where that is known
abbrev pub IsFront : Option (List ℕ) → List ℕ → Type 0
IsFront known text = (rest : Option (List ℕ)) × Consumes known rest text

-- each text of samples that goes on so begins with these
abbrev pub BeginsSo : List ℕ → List ℤ → Type 0
BeginsSo text values = (more : List ℕ) (all : List ℤ) → AreRecordsOfValues (text ++ more) all
    → IsPrefix values all

-- the file begins with a text that gives these samples, and others may follow
pub record HasFront (known : Option (List ℕ)) (values : List ℤ) : Type 0 where
  pub text : List ℕ
  pub front : IsFront known text
  pub begins : BeginsSo text values

-- they are the samples of the whole file
pub record HasAllSamples (known : Option (List ℕ)) (values : List ℤ) : Type 0 where
  pub text : List ℕ
  pub bytes : HasBytes known text
  pub samples : AreRecordsOfValues text values

-- record number n of the file is none of a sample, and the first such: however its text goes on, or
-- the file ends with it
pub record HasBadFrom (known : Option (List ℕ)) (n : ℕ) : Type 0 where
  pub text : List ℕ
  pub front : IsFront known text
  pub bad : IsBadSample text n

-- these samples came of the file: all of them, where it has ended
abbrev pub HasComeOf : Bool → Option (List ℕ) → List ℤ → Type 0
HasComeOf true known values = HasAllSamples known values
HasComeOf false known values = HasFront known values

-- ---- what a bad record is told by

-- how many line feeds a text has
abbrev pub line_feeds : List ℕ → ℕ
line_feeds text = count_by (λ b. b == 10) text

-- of a text that was read this is kept: from some byte on all of it, and the number of the line of
-- that byte
pub record IsKeptOf (read : List ℕ) (kept : RecordText) : Type 0 where
  pub before : List ℕ
  pub text_is : read ≡ before ++ kept.text.items
  pub line_is : kept.line ≡ line_feeds before + 1

-- that of a text at the front of what the file holds
pub record IsTextOfFile (known : Option (List ℕ)) (kept : RecordText) : Type 0 where
  pub read : List ℕ
  pub front : IsFront known read
  pub stands : IsKeptOf read kept

-- these lines tell a record of this number, of a text from some byte on: with the name of its file,
-- the line of that byte, and what is shown of the text there
pub record TellsIn (read file : List ℕ) (number : ℕ) (told : List ℕ) : Type 0 where
  pub before : List ℕ
  pub text : List ℕ
  pub is : read ≡ before ++ text
  pub tells : TellsFrom text file number (line_feeds before + 1) told

-- of a text at the front of what the file holds
pub record TellsOfFile (known : Option (List ℕ)) (file : List ℕ) (number : ℕ) (told : List ℕ)
    : Type 0 where
  pub read : List ℕ
  pub front : IsFront known read
  pub tells : TellsIn read file number told

-- ---- an open file

-- of an open file, in which these bytes are still to be looked at, these samples were read
pub record IsBehind {R : Type 0} (remaining : R → Option (List ℕ)) (known : Option (List ℕ))
    (values : List ℤ) (bytes : List ℕ) (file : OpenFile R) : Type 0 where
  pub text : List ℕ
  pub consumed : Consumes known (remaining (inner_of file.input)) (text ++ bytes)
  pub read : HasRead text values file.reader
  pub counted : file.count ≡ length values
  pub kept : IfSome file.text (IsKeptOf text)

-- of an open file these samples were read, and it may be that the record behind them is none
pub record IsOpenFile {R : Type 0} (remaining : R → Option (List ℕ)) (known : Option (List ℕ))
    (values : List ℤ) (file : OpenFile R) : Type 0 where
  pub come : HasFront known values
  pub good : file.is_bad ≡ false → IsBehind remaining known values [] file
  pub bad : file.is_bad ≡ true → HasBadFrom known (length values + 1)
  pub counted : file.count ≡ length values
  pub kept : IfSome file.text (IsTextOfFile known)

-- why no more samples come of a file behind so many: a read failed, or a record is none, of which
-- this is told
abbrev pub Lacks : Option (List ℕ) → List ℕ → ℕ → Lack → Type 0
Lacks known file count lack.ReadFault = ⊤
Lacks known file count (lack.BadRecord number told) =
    (number ≡ count + 1) × HasBadFrom known number
    × IfSome told (λ lines. TellsOfFile known file number lines.items)

-- a read gave these samples behind others, and where it was not the last, more may come
pub record PieceGives {R : Type 0} (remaining : R → Option (List ℕ)) (known : Option (List ℕ))
    (values room : List ℤ) (piece : Piece) (file : OpenFile R) : Type 0 where
  pub few : piece.count ≤ length room
  pub small : piece.count ≤ PIECE
  pub last : piece.is_last ≡ true → piece.count ≤ 1
  pub come : HasComeOf piece.is_last known (values ++ take piece.count room)
  pub sends : AreSends (take piece.count room)
  pub goes_on : piece.is_last ≡ false
      → IsOpenFile remaining known (values ++ take piece.count room) file

-- ---- a source

-- a source of whose file these samples came: it is open, was closed, or is still to be opened
pub record IsSource {R : Type 0} (remaining : R → Option (List ℕ)) (known : Option (List ℕ))
    (values : List ℤ) (source : Source R) : Type 0 where
  pub file : IfSome source.file (IsOpenFile remaining known values)
  pub unopened : source.was_opened ≡ false → values ≡ []

-- it gave these samples behind others
pub record GivesSource {R : Type 0} (remaining : R → Option (List ℕ)) (known : Option (List ℕ))
    (values room : List ℤ) (piece : Piece) (source : Source R) : Type 0 where
  pub few : piece.count ≤ length room
  pub small : piece.count ≤ PIECE
  pub last : piece.is_last ≡ true → piece.count ≤ 1
  pub come : HasComeOf piece.is_last known (values ++ take piece.count room)
  pub sends : AreSends (take piece.count room)
  pub source_is : IsSource remaining known (values ++ take piece.count room) source

-- each source has its task, and no sample came of its file
abbrev pub AreUnopened : {R : Type 0} → (R → Option (List ℕ)) → Known → Job → List (Source R)
    → Type 0
AreUnopened {R} remaining held job sources = (k : ℕ) (source : Source R)
    → slice_get sources k ≡ Some source
    → IsSourceAt job source.task k × IsSource remaining (held (file_at job.graph k)) [] source
