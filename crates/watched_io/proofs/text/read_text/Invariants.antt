use Rattle.std.proofs.Common.{◌≡◌, ◌≤◌, ◌-◌, length, vec_len}
use Rattle.watched_io.specs.States.{Gives, reader_state}
use Rattle.watched_io.specs.declared.text.TheConstants.{CHUNK_MAX}
use Rattle.watched_io.proofs.text.read_text.Given as goal

-- The text so far was read, and is within the limit. No read has failed.
abbrev pub invariant-reading : goal.invariant-reading
invariant-reading g l = record {
  chunk : vec_len l.chunk ≡ CHUNK_MAX;
  gives : Gives (reader_state g.R.Read.remaining l.fn.reader) (reader_state g.R.Read.remaining l.reader)
      l.text.items;
  short : length l.text.items ≤ l.limit;
  kept : l.reader.has_failed ≡ l.fn.reader.has_failed;
}

-- Each chunk leaves less room.
abbrev pub decreases-reading : goal.decreases-reading
decreases-reading g l = l.limit - length l.text.items
