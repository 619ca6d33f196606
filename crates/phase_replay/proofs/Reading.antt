-- A replay on its way through its script.
use Rattle.std.proofs.Common.{◌≡◌, ◌⊎◌, inl, inr, true, ℕ, ◌+◌, ◌-◌, ◌≤◌, List, [], ◌++◌, None, Some, length, refl, sym, ◌∙◌, ap, subst, append_assoc, append-nil, arith, length-append}
use Rattle.std.specs.Io.KnownBytes.{Appends, Keeps, IsAtEnd}
use Rattle.std.proofs.KnownBytes.{Appends-nil, Appends-trans}
use Rattle.std.specs.declared.option.Option.{Option}
use Rattle.watched_io.specs.Prefix.{AppendsPrefix}
use Rattle.watched_io.specs.States.{Gives, ReaderState, ReadsTooMuch, ReadsWithin, WriterState}
use Rattle.watched_io.proofs.Giving.{gives_kept, gives_more, gives_none}
use Rattle.watched_io.proofs.Giving as giving
use Rattle.phase_replay.specs.ScriptReading.{StopsReading}
use Rattle.phase_replay.specs.Replay.{known_bytes, ReplaysAll, ReplaysPrefix}
use Rattle.phase_replay.specs.Replies.{replies_of}
use Rattle.phase_replay.specs.Replayer.{ReplayerOwes, Goes}
use Rattle.phase_replay.specs.declared.replayer.Replayer.{Replayer}
use Rattle.phase_replay.specs.declared.whole.TheConstants.{SCRIPT_MAX, PIECE_MAX}
use Rattle.phase_replay.proofs.Going.{goes_stopped, goes_further, goes_failed}

-- the reading stops at a read that fails
pub stops_failed : (unread rest : ReaderState) (left most : ℕ) → Keeps unread.unread rest.unread → rest.count ≡ unread.count
    → rest.failed ≡ true → StopsReading unread rest left most
stops_failed unread rest left most keeps same fails = record {
  piece = [];
  gives = gives_kept unread rest keeps same;
  short = omega arith;
  why = inl fails;
}

-- `script` was read, and whatever comes behind it, the replayer owes the rest of the replies
pub record Reads (unread rest : ReaderState) (old new : Option (List ℕ)) (replayer : Replayer) (left : ℕ) : Type 0 where
  pub script : List ℕ
  pub gives : Gives unread rest script
  pub count : length script + left ≡ SCRIPT_MAX
  pub goes : (later : List ℕ) → Goes old new replayer later (replies_of (script ++ later))

pub reads_start : (unread : ReaderState) (old : Option (List ℕ)) (replayer : Replayer)
    → ((script : List ℕ) → ReplayerOwes replayer script (replies_of script)) → Reads unread unread old old replayer SCRIPT_MAX
reads_start unread old replayer owes = record {
  script = [];
  gives = gives_none unread;
  count = omega arith;
  goes = λ later. record {
    sent = [];
    rest = replies_of later;
    whole = refl;
    appends = Appends-nil old;
    owes = owes later;
  };
}

-- nothing was read, and nothing was written
pub replays_nothing : (unread : ReaderState) (old : WriterState) → ReplaysPrefix unread unread old old
replays_nothing unread old = record {
  script = [];
  gives = gives_none unread;
  short = omega arith;
  replied = ([], replies_of ([] ++ known_bytes unread.unread), refl, Appends-nil old.written);
}

-- the replies that waited were written
pub reads_sent : (unread rest : ReaderState) (old mid new : Option (List ℕ)) (replayer next : Replayer) (left : ℕ)
    → Reads unread rest old mid replayer left
    → ((later owed : List ℕ) → ReplayerOwes replayer later owed → Goes mid new next later owed) → Reads unread rest old new next left
reads_sent unread rest old mid new replayer next left reads step = record {
  script = reads.script;
  gives = reads.gives;
  count = reads.count;
  goes = λ later. goes_further old mid new replayer next later later _ (reads.goes later) (step later);
}

-- a prefix of them was
pub reads_send_failed : (unread rest : ReaderState) (old new : WriterState) (mid : Option (List ℕ)) (replayer : Replayer) (left : ℕ)
    → Reads unread rest old.written mid replayer left
    → ((later owed : List ℕ) → ReplayerOwes replayer later owed → AppendsPrefix mid new.written owed) → ReplaysPrefix unread rest old new
reads_send_failed unread rest old new mid replayer left reads step =
    let later = known_bytes rest.unread in
    record {
      script = reads.script;
      gives = reads.gives;
      short = omega (arith, reads.count);
      replied = goes_failed old.written mid new.written replayer later _ (reads.goes later) (step later);
    }

-- with a piece read, the replayer owes what it owed before it
pub goes_pieced : (unread mid : ReaderState) (old new : Option (List ℕ)) (replayer : Replayer) (left : ℕ) (piece later : List ℕ)
    (reads : Reads unread mid old new replayer left)
    → Goes old new replayer (piece ++ later) (replies_of ((reads.script ++ piece) ++ later))
goes_pieced unread mid old new replayer left piece later reads =
    subst (λ script. Goes old new replayer (piece ++ later) (replies_of script)) (sym (append_assoc reads.script piece later)) (reads.goes (piece ++ later))

-- the reading stopped: a prefix of the script was read, and of the replies written
pub reads_stopped : (unread mid rest : ReaderState) (old new : WriterState) (replayer : Replayer) (left most : ℕ)
    → Reads unread mid old.written new.written replayer left → most ≤ PIECE_MAX → StopsReading mid rest left most
    → ReplaysPrefix unread rest old new
reads_stopped unread mid rest old new replayer left most reads few stops =
    let later = known_bytes rest.unread in
    record {
      script = reads.script ++ stops.piece;
      gives = gives_more unread mid rest reads.script stops.piece reads.gives stops.gives;
      short = omega (arith, reads.count, stops.short, length-append reads.script stops.piece);
      replied = goes_stopped old.written new.written replayer (stops.piece ++ later) _ (goes_pieced unread mid old.written new.written replayer left stops.piece later reads);
    }

-- a read had failed, or the script is too long
pub reads_too_much : (unread mid rest : ReaderState) (old new : Option (List ℕ)) (replayer : Replayer) (left most : ℕ)
    → Reads unread mid old new replayer left → most ≤ PIECE_MAX → StopsReading mid rest left most
    → (rest.failed ≡ true) ⊎ ReadsTooMuch SCRIPT_MAX PIECE_MAX unread rest
reads_too_much unread mid rest old new replayer left most reads few stops = elim stops.why [
  | inl fails ↦ inl fails
  | inr long ↦ inr (giving.reads_too_much SCRIPT_MAX PIECE_MAX unread rest (reads.script ++ stops.piece)
      (gives_more unread mid rest reads.script stops.piece reads.gives stops.gives)
      (omega (arith, reads.count, long, length-append reads.script stops.piece))
      (omega (arith, reads.count, stops.short, length-append reads.script stops.piece)))
]

-- a piece was read and answered
pub reads_pieced : (unread mid rest : ReaderState) (old was new : Option (List ℕ)) (replayer next : Replayer) (left count : ℕ) (piece : List ℕ)
    → Reads unread mid old was replayer left → Gives mid rest piece → length piece ≡ count → count ≤ left
    → ((later owed : List ℕ) → ReplayerOwes replayer (piece ++ later) owed → Goes was new next later owed)
    → Reads unread rest old new next (left - count)
reads_pieced unread mid rest old was new replayer next left count piece reads gives long fits step = record {
  script = reads.script ++ piece;
  gives = gives_more unread mid rest reads.script piece reads.gives gives;
  count = omega (arith, reads.count, length-append reads.script piece);
  goes = λ later. goes_further old was new replayer next (piece ++ later) later _ (goes_pieced unread mid old was replayer left piece later reads) (step later);
}

-- a piece was read, and no more than a script may have
pub reads_within : (unread mid rest : ReaderState) (old was : Option (List ℕ)) (replayer : Replayer) (left count : ℕ) (piece : List ℕ)
    → Reads unread mid old was replayer left → Gives mid rest piece → length piece ≡ count → count ≤ left
    → ReadsWithin SCRIPT_MAX unread rest
reads_within unread mid rest old was replayer left count piece reads gives long fits = record {
  text = reads.script ++ piece;
  gives = gives_more unread mid rest reads.script piece reads.gives gives;
  short = omega (arith, reads.count, length-append reads.script piece);
}

-- a piece was read, and the replay stopped on its way through it
pub reads_piece_failed : (unread mid rest : ReaderState) (old new : WriterState) (was : Option (List ℕ)) (replayer : Replayer) (left count : ℕ) (piece : List ℕ)
    → Reads unread mid old.written was replayer left → Gives mid rest piece → length piece ≡ count → count ≤ left
    → ((later owed : List ℕ) → ReplayerOwes replayer (piece ++ later) owed → AppendsPrefix was new.written owed) → ReplaysPrefix unread rest old new
reads_piece_failed unread mid rest old new was replayer left count piece reads gives long fits step =
    let later = known_bytes rest.unread in
    record {
      script = reads.script ++ piece;
      gives = gives_more unread mid rest reads.script piece reads.gives gives;
      short = omega (arith, reads.count, length-append reads.script piece);
      replied = goes_failed old.written was new.written replayer (piece ++ later) _ (goes_pieced unread mid old.written was replayer left piece later reads) (step later);
    }

-- nothing is known to be left at the end
known_bytes-end : (rest : Option (List ℕ)) → IsAtEnd rest → known_bytes rest ≡ []
known_bytes-end None end = refl
known_bytes-end (Some bs) end = end

-- the script ended, and all replies were written
pub reads_end : (unread mid rest : ReaderState) (old new : WriterState) (was : Option (List ℕ)) (replayer : Replayer) (left : ℕ)
    → Reads unread mid old.written was replayer left
    → Gives mid rest [] → IsAtEnd rest.unread → ((owed : List ℕ) → ReplayerOwes replayer [] owed → Appends was new.written owed)
    → rest.failed ≡ unread.failed → new.failed ≡ old.failed → ReplaysAll unread rest old new
reads_end unread mid rest old new was replayer left reads gives ends step read wrote =
    let goes = reads.goes [] in
    let written : Appends old.written new.written (goes.sent ++ goes.rest) = Appends-trans old.written was new.written goes.sent goes.rest goes.appends (step goes.rest goes.owes) in
    let same : reads.script ++ [] ≡ reads.script = append-nil reads.script in
    record {
      script = reads.script;
      gives = subst (Gives unread rest) same (gives_more unread mid rest reads.script [] reads.gives gives);
      ends = ends;
      short = omega (arith, reads.count);
      read = read;
      wrote = wrote;
      replied = subst (Appends old.written new.written) (sym goes.whole ∙ ap replies_of same) written;
    }

-- the script ended, and a prefix of them was
pub reads_end_failed : (unread mid rest : ReaderState) (old new : WriterState) (was : Option (List ℕ)) (replayer : Replayer) (left : ℕ)
    → Reads unread mid old.written was replayer left
    → Gives mid rest [] → IsAtEnd rest.unread → ((owed : List ℕ) → ReplayerOwes replayer [] owed → AppendsPrefix was new.written owed)
    → ReplaysPrefix unread rest old new
reads_end_failed unread mid rest old new was replayer left reads gives ends step =
    let same : reads.script ++ [] ≡ reads.script = append-nil reads.script in
    let none : known_bytes rest.unread ≡ [] = known_bytes-end rest.unread ends in
    record {
      script = reads.script;
      gives = subst (Gives unread rest) same (gives_more unread mid rest reads.script [] reads.gives gives);
      short = omega (arith, reads.count);
      replied = rw none (goes_failed old.written was new.written replayer [] _ (reads.goes []) step);
    }
