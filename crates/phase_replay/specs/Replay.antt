-- What a replay did to its reader and its writer: what it read, and what it wrote.
use Rattle.std.specs.Prelude.{◌≡◌, ◌⊎◌, ℕ, ◌+◌, ◌≤◌, true, List, [], ◌++◌, length, None, Some, IfSome}
use Rattle.std.specs.Io.KnownBytes.{Appends, IsAtEnd}
use Rattle.std.specs.declared.option.Option.{Option}
use Rattle.watched_io.specs.Prefix.{AppendsPrefix}
use Rattle.watched_io.specs.States.{Gives, ReaderState, ReadsTooMuch, ReadsWithin, WriterState}
use Rattle.phase_replay.specs.Replies.{replies_of}
use Rattle.watched_io.specs.declared.fault.IoFault.{IoFault}
use Rattle.watched_io.specs.declared.fault.IoFault.TheVariants.{ReadFault, WriteFault, OutOfMemory}
use Rattle.phase_replay.specs.declared.whole.TheConstants.{SCRIPT_MAX, PIECE_MAX}

-- the bytes, or none where they are not known
abbrev pub known_bytes : Option (List ℕ) → List ℕ
known_bytes None = []
known_bytes (Some bs) = bs

-- ---- where the script is known

-- the writer got the replies to it, whole
abbrev pub RepliesWhole : ReaderState → WriterState → WriterState → Type 0
RepliesWhole reader old new = IfSome reader.unread (λ script.
    (length script ≤ SCRIPT_MAX) × Appends old.written new.written (replies_of script))

-- the writer got a prefix of them
abbrev pub RepliesPrefix : ReaderState → WriterState → WriterState → Type 0
RepliesPrefix reader old new = IfSome reader.unread (λ script.
    AppendsPrefix old.written new.written (replies_of script))

-- ---- where it is not known beforehand

-- the reader gave a whole script, the writer got the replies to it, and no call failed
pub record ReplaysAll (old new : ReaderState) (before after : WriterState) : Type 0 where
  pub script : List ℕ
  pub gives : Gives old new script
  pub ends : IsAtEnd new.unread
  pub short : length script ≤ SCRIPT_MAX
  pub replied : Appends before.written after.written (replies_of script)
  pub read : new.failed ≡ old.failed
  pub wrote : after.failed ≡ before.failed

-- the reader gave a prefix of a script, and the writer got a prefix of the replies; no more was
-- read than one piece past the limit
pub record ReplaysPrefix (old new : ReaderState) (before after : WriterState) : Type 0 where
  pub script : List ℕ
  pub gives : Gives old new script
  pub short : length script ≤ SCRIPT_MAX + PIECE_MAX
  pub replied : AppendsPrefix before.written after.written
      (replies_of (script ++ known_bytes new.unread))

-- the fault has its cause: a read failed or the script is too long; a write failed; memory ran out,
-- with no more read than a script may have; and nothing else failed
abbrev pub HasCause : IoFault → ReaderState → ReaderState → WriterState → WriterState → Type 0
HasCause ReadFault old new before after =
    ((new.failed ≡ true) ⊎ ReadsTooMuch SCRIPT_MAX PIECE_MAX old new)
    × (after.failed ≡ before.failed)
HasCause WriteFault old new before after =
    (after.failed ≡ true) × (new.failed ≡ old.failed)
HasCause OutOfMemory old new before after =
    ReadsWithin SCRIPT_MAX old new × (new.failed ≡ old.failed) × (after.failed ≡ before.failed)
