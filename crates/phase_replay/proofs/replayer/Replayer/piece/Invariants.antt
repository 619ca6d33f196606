use Rattle.std.proofs.Common.{◌≡◌, ◌≤◌, List, ℕ, ◌++◌, length}
use Rattle.phase_replay.specs.Replayer.{ReplayerOwes, Goes}
use Rattle.phase_replay.proofs.replayer.Replayer.piece.Given as goal

-- A prefix of what was owed at the start is written, and with what is left of the piece to be read
-- the replayer owes the rest. No write has failed.
abbrev pub invariant-loop-end : goal.invariant-loop-end
invariant-loop-end g l = (length l.rest ≤ length l.fn.piece)
    × (l.writer.has_failed ≡ l.fn.writer.has_failed)
    × ((later owed : List ℕ) → ReplayerOwes l.fn.self (l.fn.piece ++ later) owed
    → Goes (g.W.Write.contents l.fn.writer.inner) (g.W.Write.contents l.writer.inner) l.self (l.rest ++ later) owed)

abbrev pub decreases-loop-end : goal.decreases-loop-end
decreases-loop-end g l = length l.rest
