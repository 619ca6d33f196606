-- From what its registrations have seen.
use Rattle.std.proofs.Common.{[], ◌∷◌, refl, arith}
use Rattle.worked_runs.specs.Worked.{worked}
use Rattle.worked_runs.specs.WorkedParts.{peer_seen}
use Rattle.worked_runs.proofs.PeerAlone.{roots, knows_first}
use Rattle.worked_runs.proofs.WorkedRun.{worked-is}
use Rattle.worked_runs.proofs.worked_parts.the_peer_begins.Goals as goal

pub returns : goal.returns
returns c =
    let first = c.roots_begin.ensures worked 1 (2 ∷ 1 ∷ 1 ∷ []) peer_seen worked-is (omega arith)
    refl refl roots in
    (first.0, knows_first first.0 first.1)
