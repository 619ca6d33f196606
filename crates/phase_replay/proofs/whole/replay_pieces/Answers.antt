use Rattle.std.proofs.Common.{refl}
use Rattle.std.proofs.lemmas.Result.{err_from_is_err_and}
use Rattle.watched_io.proofs.Giving.{reads_nothing}
use Rattle.phase_replay.proofs.Reading.{replays_nothing}
use Rattle.phase_replay.proofs.whole.replay_pieces.Goals as goal

-- There was no memory to read into.
pub returns-in_err-piece-clause-prefix : goal.returns-in_err-piece-clause-prefix
returns-in_err-piece-clause-prefix g c =
    let p = err_from_is_err_and c.from_residual.result c.from_residual.ensures.1 in
    rw p.1 (replays_nothing _ _)

pub returns-in_err-piece-clause-cause : goal.returns-in_err-piece-clause-cause
returns-in_err-piece-clause-cause g c =
    let p = err_from_is_err_and c.from_residual.result c.from_residual.ensures.1 in
    rw (p.1, p.2) (reads_nothing _ _, refl, refl)
