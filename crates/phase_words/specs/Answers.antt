-- How a run of the program may end, by the kinds of answer that clap may give in place of taking
-- its words, and how words that are not taken are answered.
use Rattle.std.specs.Prelude.{◌≡◌, ◌⊎◌, [], ◌∷◌, ℕ, List, Option, true, string_bytes}
use Rattle.std.specs.Io.KnownBytes.{Appends}
use Rattle.clap.specs.Words.{Kinds}
use Rattle.clap.specs.declared.error.kind.ErrorKind.TheVariants.{DisplayHelp, DisplayVersion}
use Rattle.phase_words.specs.CommandLine.{Refuse}
use Rattle.phase_words.specs.declared.call.NoCall.{NoCall}
use Rattle.phase_words.specs.declared.call.NoCall.TheVariants as no_call
use Rattle.watched_io.specs.Prefix.{AppendsPrefix}
use Rattle.watched_io.specs.States.{WriterState, writer_state}
use Rattle.watched_io.specs.Statuses.{Reports, Says}
use Rattle.watched_io.specs.Watched.{has_failed_of}
use Rattle.watched_io.specs.declared.fault.IoFault.TheVariants.{OutOfMemory, WriteFault}
use Rattle.watched_io.specs.declared.status.Status.{Status}
use Rattle.watched_io.specs.declared.status.Status.TheVariants.{Done, Failed, Refused}
use Rattle.watched_io.specs.declared.streams.Streams.{Streams}
use Rattle.watched_io.specs.declared.watched.Watched.{Watched}

-- the statuses that may come: of words that are taken those that Taken tells
pub record MayEnd (kinds : Kinds) (Taken : Status → Type 0) (status : Status) : Type 0 where
  pub taken : kinds ≡ [] → Taken status
  pub help : kinds ≡ DisplayHelp ∷ [] → (status ≡ Done) ⊎ (status ≡ Failed)
  pub version : kinds ≡ DisplayVersion ∷ [] → (status ≡ Done) ⊎ (status ≡ Failed)
  pub refused : Refuse kinds → (status ≡ Refused) ⊎ (status ≡ Failed)
  pub untaken : (kinds ≡ [] → ⊥) → (status ≡ Done) ⊎ ((status ≡ Refused) ⊎ (status ≡ Failed))

-- memory ran out over the words: no file was opened, and nothing was written but the fault's line
pub record IsUnbegun {F W : Type 0} (status : Status) (closed files : F) (old new : Watched W)
    (before after : WriterState) : Type 0 where
  pub status_is : status ≡ Failed
  pub unopened : files ≡ closed
  pub silent : new ≡ old
  pub says : Reports OutOfMemory before after

-- ---- what a command wrote

-- this holds of the files and of what was written, as they were and as they are
abbrev pub OfStreams : {W E F : Type 0} → (E → Option (List ℕ))
    → (F → F → Watched W → Watched W → WriterState → WriterState → Type 0)
    → Streams W E F → Streams W E F → Type 0
OfStreams contents Holds old new = Holds old.files new.files old.output new.output
    (writer_state contents old.faults) (writer_state contents new.faults)

-- this holds of what was written
abbrev pub Wrote : {W E F : Type 0} → (E → Option (List ℕ))
    → (Watched W → Watched W → WriterState → WriterState → Type 0)
    → Streams W E F → Streams W E F → Type 0
Wrote contents Holds old new = Holds old.output new.output
    (writer_state contents old.faults) (writer_state contents new.faults)

-- it holds, or memory ran out over the words
abbrev pub WroteIfBegun : {W E F : Type 0} → (E → Option (List ℕ)) → Status
    → (Watched W → Watched W → WriterState → WriterState → Type 0)
    → Streams W E F → Streams W E F → Type 0
WroteIfBegun contents status Holds old new =
    OfStreams contents (IsUnbegun status) old new ⊎ Wrote contents Holds old new

-- ---- words that give no call

-- the status by why there is no call; what is told goes to the fault stream alone, but for help and
-- the version
abbrev pub IsAnswer : {W : Type 0} → NoCall → Status → Watched W → Watched W
    → WriterState → WriterState → Type 0
IsAnswer (no_call.Shown text) status old new before after = (status ≡ Done) ⊎ (status ≡ Failed)
IsAnswer (no_call.Refused text) status old new before after = (status ≡ Refused) × (new ≡ old)
IsAnswer no_call.OutOfMemory status old new before after =
    (status ≡ Failed) × ((new ≡ old) × Reports OutOfMemory before after)

-- a text was shown: the output grew by it where all went well, and else by a prefix of it
pub record ShowsText (text : List ℕ) (status : Status) (old new : WriterState) : Type 0 where
  pub whole : status ≡ Done → Appends old.written new.written text
  pub prefix : AppendsPrefix old.written new.written text

-- the text of help, of the version or of a refusal stands on its stream
abbrev pub TellsText : NoCall → Status → WriterState → WriterState → WriterState → WriterState
    → Type 0
TellsText (no_call.Shown text) status old new before after =
    ShowsText (string_bytes text) status old new
TellsText (no_call.Refused text) status old new before after = Says (string_bytes text) before after
TellsText no_call.OutOfMemory status old new before after = Reports OutOfMemory before after

-- the answer to words that are not taken stopped: memory ran out before anything was written, or
-- help or the version could not be written; that was told
abbrev pub AnswerStops : {W : Type 0} → Watched W → Watched W → WriterState → WriterState → Type 0
AnswerStops old new before after =
    ((new ≡ old) × Reports OutOfMemory before after)
    ⊎ ((has_failed_of new ≡ true) × Reports WriteFault before after)

-- how words that are not taken are answered: a refusal leaves the output as it was
pub record AnswerEnds {W : Type 0} (kinds : Kinds) (status : Status) (old new : Watched W)
    (before after : WriterState) : Type 0 where
  pub silent : Refuse kinds ⊎ (status ≡ Refused) → new ≡ old
  pub stops : status ≡ Failed → AnswerStops old new before after
