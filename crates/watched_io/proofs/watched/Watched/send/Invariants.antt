use Rattle.std.proofs.Common.{length, ◌-◌, ◌≡◌, ◌≤◌, take}
use Rattle.std.specs.Io.KnownBytes.{Appends}
use Rattle.watched_io.proofs.watched.Watched.send.Given as goal

-- The bytes before `sent` were written, no call has failed, and none was a read.
abbrev pub invariant-loop-sent : goal.invariant-loop-sent
invariant-loop-sent g l = (l.sent ≤ length l.bytes)
    × Appends (g.W.Write.contents l.fn.self.inner) (g.W.Write.contents l.self.inner) (take l.sent l.bytes)
    × (l.self.has_failed ≡ l.fn.self.has_failed)
    × (l.self.count ≡ l.fn.self.count)

abbrev pub decreases-loop-sent : goal.decreases-loop-sent
decreases-loop-sent g l = length l.bytes - l.sent
