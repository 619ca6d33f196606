use Rattle.std.proofs.Common.{◌≡◌, length}
use Rattle.watched_io.specs.States.{reader_state}
use Rattle.phase_replay.proofs.Reading.{Reads}
use Rattle.phase_replay.proofs.whole.replay_by.Given as goal

-- The script so far is read, and of the replies to it and to what follows the replayer owes what is
-- not written. No read or write has failed.
abbrev pub invariant-replaying : goal.invariant-replaying
invariant-replaying g l = (length l.piece ≡ 65536)
    × Reads (reader_state g.R.Read.remaining l.fn.reader) (reader_state g.R.Read.remaining l.reader)
    (g.W.Write.contents l.fn.writer.inner) (g.W.Write.contents l.writer.inner) l.replayer l.left
    × (l.reader.has_failed ≡ l.fn.reader.has_failed)
    × (l.writer.has_failed ≡ l.fn.writer.has_failed)

abbrev pub decreases-replaying : goal.decreases-replaying
decreases-replaying g l = l.left
