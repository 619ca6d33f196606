use Rattle.std.proofs.Common.{◌≡◌, take}
use Rattle.std.specs.Io.KnownBytes.{Appends}
use Rattle.std.specs.List.{flat_map}
use Rattle.watched_io.specs.Watched.{has_failed_of, inner_of}
use Rattle.watched_io.proofs.parts.write_parts.Given as goal

-- the parts before this one were written
abbrev pub invariant-loop-part : goal.invariant-loop-part
invariant-loop-part g l =
    Appends (g.W.Write.contents (inner_of l.fn.writer)) (g.W.Write.contents (inner_of l.writer))
    (flat_map (λ part. part.now) (take l.part-index l.parts))
    × (has_failed_of l.writer ≡ has_failed_of l.fn.writer)
