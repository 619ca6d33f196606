-- A watched reader or writer as its callers see it, and what a reader gave from one state to the
-- next.
use Rattle.std.specs.Prelude.{ℕ, ◌+◌, ◌<◌, ◌≤◌, Bool, List, length, IfSome}
use Rattle.std.specs.Io.KnownBytes.{Consumes, IsAtEnd}
use Rattle.std.specs.declared.option.Option.{Option}
use Rattle.watched_io.specs.Watched.{CountsUp}
use Rattle.watched_io.specs.declared.watched.Watched.{Watched}

-- ---- states

-- a watched reader: what it has still to give, where that is known; how many bytes its reads gave,
-- as far as they are counted; and whether a call failed
pub record ReaderState : Type 0 where
  pub unread : Option (List ℕ)
  pub count : ℕ
  pub failed : Bool

-- a watched writer: what it got, where that is known; and whether a call failed
pub record WriterState : Type 0 where
  pub written : Option (List ℕ)
  pub failed : Bool

-- a watched reader, by what its reader has still to give
abbrev pub reader_state : {R : Type 0} → (R → Option (List ℕ)) → Watched R → ReaderState
reader_state remaining watched = record {
  unread = remaining watched.inner;
  count = watched.count;
  failed = watched.has_failed;
}

-- a watched writer, by what its writer got
abbrev pub writer_state : {W : Type 0} → (W → Option (List ℕ)) → Watched W → WriterState
writer_state contents watched = record {
  written = contents watched.inner;
  failed = watched.has_failed;
}

-- ---- what a reader gave

-- the reader gave these bytes, and they were counted
pub record Gives (old new : ReaderState) (bytes : List ℕ) : Type 0 where
  pub read : Consumes old.unread new.unread bytes
  pub counted : CountsUp old.count new.count (length bytes)

-- the reader gave this text, which is within the limit, and then it ended
pub record ReadsAll (limit : ℕ) (old new : ReaderState) (text : List ℕ) : Type 0 where
  pub gives : Gives old new text
  pub ends : IsAtEnd new.unread
  pub short : length text ≤ limit

-- the reader gave more than the limit, by one piece at most: so where its text is known, that is
-- longer than the limit
pub record ReadsTooMuch (limit piece : ℕ) (old new : ReaderState) : Type 0 where
  pub text : List ℕ
  pub gives : Gives old new text
  pub long : limit < length text
  pub short : length text ≤ limit + piece
  pub known : IfSome old.unread (λ all. limit < length all)

-- the reader gave no more than the limit
pub record ReadsWithin (limit : ℕ) (old new : ReaderState) : Type 0 where
  pub text : List ℕ
  pub gives : Gives old new text
  pub short : length text ≤ limit
