use Rattle.std.proofs.Common.{◌∙◌, refl, arith}
use Rattle.std.proofs.lemmas.List.{length-take-le}
use Rattle.std.proofs.lemmas.Result.{err_from_is_err_and}
use Rattle.phase_replay.proofs.Noted.{cause_at}
use Rattle.phase_replay.proofs.Reading.{reads_start, reads_sent, reads_send_failed, reads_stopped, reads_too_much, reads_pieced, reads_piece_failed, reads_within, reads_end, reads_end_failed}
use Rattle.phase_replay.proofs.whole.replay_by.Goals as goal

-- No byte is read.
pub replaying-init : goal.replaying-init
replaying-init g c = (c.requires.room, reads_start _ _ c.args.replayer.now c.requires.begun, refl, refl)

-- The replies that waited were not all written.
pub returns-in_err-hand_over-clause-prefix : goal.returns-in_err-hand_over-clause-prefix
returns-in_err-hand_over-clause-prefix g c =
    let p = err_from_is_err_and c.from_residual.result c.from_residual.ensures.1 in
    rw p.1 (reads_send_failed _ _ _ _ _ c.replaying.replayer c.replaying.left c.replaying.invariant.1 c.in_err-hand_over.ensures.err)

pub returns-in_err-hand_over-clause-cause : goal.returns-in_err-hand_over-clause-cause
returns-in_err-hand_over-clause-cause g c =
    let p = err_from_is_err_and c.from_residual.result c.from_residual.ensures.1 in
    rw (p.1, p.2) (c.in_err-hand_over.ensures.failed, c.replaying.invariant.2)

-- They were, and then the reading stopped.
pub returns-in_err-count-clause-prefix : goal.returns-in_err-count-clause-prefix
returns-in_err-count-clause-prefix g c =
    let p = err_from_is_err_and c.from_residual-in_err-count.result c.from_residual-in_err-count.ensures.1 in
    rw p.1 (reads_stopped _ _ _ _ _ c.hand_over.new.self c.replaying.left _
    (reads_sent _ _ _ _ _ c.replaying.replayer c.hand_over.new.self c.replaying.left c.replaying.invariant.1 c.in_ok-hand_over.ensures.ok)
    (omega (arith, c.replaying.invariant.0, c.read_piece.auto.piece)) c.in_err-count.ensures.err.1)

pub returns-in_err-count-clause-cause : goal.returns-in_err-count-clause-cause
returns-in_err-count-clause-cause g c =
    let p = err_from_is_err_and c.from_residual-in_err-count.result c.from_residual-in_err-count.ensures.1 in
    rw (p.1, p.2, c.in_err-count.ensures.err.0) (
      reads_too_much _ _ _ _ _ c.hand_over.new.self c.replaying.left _
          (reads_sent _ _ _ _ _ c.replaying.replayer c.hand_over.new.self c.replaying.left c.replaying.invariant.1 c.in_ok-hand_over.ensures.ok)
          (omega (arith, c.replaying.invariant.0, c.read_piece.auto.piece)) c.in_err-count.ensures.err.1,
      c.in_ok-hand_over.ensures.watched ∙ c.replaying.invariant.3,
    )

-- The script ended, and the last replies were not all written.
pub returns-in_err-finish-clause-prefix : goal.returns-in_err-finish-clause-prefix
returns-in_err-finish-clause-prefix g c =
    let p = err_from_is_err_and c.from_residual-in_err-finish.result c.from_residual-in_err-finish.ensures.1 in
    rw p.1 (reads_end_failed _ _ _ _ _ _ c.hand_over.new.self c.replaying.left
    (reads_sent _ _ _ _ _ c.replaying.replayer c.hand_over.new.self c.replaying.left c.replaying.invariant.1 c.in_ok-hand_over.ensures.ok)
    (rw c.if-count-eq0.true at c.in_ok-count.ensures.gives) (c.in_ok-count.ensures.end c.if-count-eq0.true (omega (arith, c.replaying.invariant.0, c.read_piece.auto.piece))) c.in_err-finish.ensures.err)

pub returns-in_err-finish-clause-cause : goal.returns-in_err-finish-clause-cause
returns-in_err-finish-clause-cause g c =
    let p = err_from_is_err_and c.from_residual-in_err-finish.result c.from_residual-in_err-finish.ensures.1 in
    rw (p.1, p.2) (cause_at c.in_err-finish.field-0.0 _ _ _ _ _
    (reads_within _ _ _ _ _ c.hand_over.new.self c.replaying.left _ _
    (reads_sent _ _ _ _ _ c.replaying.replayer c.hand_over.new.self c.replaying.left c.replaying.invariant.1 c.in_ok-hand_over.ensures.ok)
    c.in_ok-count.ensures.gives (length-take-le c.in_ok-count.count c.read_piece.new.piece (omega (arith, c.in_ok-count.ensures.bound))) c.in_ok-count.ensures.fits)
    (c.in_ok-count.ensures.same ∙ c.replaying.invariant.2)
    (c.in_ok-hand_over.ensures.watched ∙ c.replaying.invariant.3) c.in_err-finish.ensures.noted)

-- The script ended, and they were.
pub returns-then-count-eq0-clause-all : goal.returns-then-count-eq0-clause-all
returns-then-count-eq0-clause-all g c = reads_end _ _ _ _ _ _ c.hand_over.new.self c.replaying.left
    (reads_sent _ _ _ _ _ c.replaying.replayer c.hand_over.new.self c.replaying.left c.replaying.invariant.1 c.in_ok-hand_over.ensures.ok)
    (rw c.if-count-eq0.true at c.in_ok-count.ensures.gives) (c.in_ok-count.ensures.end c.if-count-eq0.true (omega (arith, c.replaying.invariant.0, c.read_piece.auto.piece))) c.in_ok-finish.ensures.ok
    (c.in_ok-count.ensures.same ∙ c.replaying.invariant.2)
    (c.in_ok-finish.ensures.noted ∙ c.in_ok-hand_over.ensures.watched ∙ c.replaying.invariant.3)

-- A piece is read and answered.
pub replaying-preserved : goal.replaying-preserved
replaying-preserved g c = (
  c.read_piece.auto.piece ∙ c.replaying.invariant.0,
  reads_pieced _ _ _ _ _ _ c.hand_over.new.self c.piece.new.self c.replaying.left c.in_ok-count.count _
      (reads_sent _ _ _ _ _ c.replaying.replayer c.hand_over.new.self c.replaying.left c.replaying.invariant.1 c.in_ok-hand_over.ensures.ok)
      c.in_ok-count.ensures.gives (length-take-le c.in_ok-count.count c.read_piece.new.piece (omega (arith, c.in_ok-count.ensures.bound))) c.in_ok-count.ensures.fits
      c.in_ok-piece.ensures.ok,
  c.in_ok-count.ensures.same ∙ c.replaying.invariant.2,
  c.in_ok-piece.ensures.noted ∙ c.in_ok-hand_over.ensures.watched ∙ c.replaying.invariant.3,
)

-- The replay stopped on its way through a piece.
pub returns-in_err-piece-clause-prefix : goal.returns-in_err-piece-clause-prefix
returns-in_err-piece-clause-prefix g c =
    let p = err_from_is_err_and c.from_residual-in_err-piece.result c.from_residual-in_err-piece.ensures.1 in
    rw p.1 (reads_piece_failed _ _ _ _ _ _ c.hand_over.new.self c.replaying.left c.in_ok-count.count _
    (reads_sent _ _ _ _ _ c.replaying.replayer c.hand_over.new.self c.replaying.left c.replaying.invariant.1 c.in_ok-hand_over.ensures.ok)
    c.in_ok-count.ensures.gives (length-take-le c.in_ok-count.count c.read_piece.new.piece (omega (arith, c.in_ok-count.ensures.bound))) c.in_ok-count.ensures.fits
    c.in_err-piece.ensures.err)

pub returns-in_err-piece-clause-cause : goal.returns-in_err-piece-clause-cause
returns-in_err-piece-clause-cause g c =
    let p = err_from_is_err_and c.from_residual-in_err-piece.result c.from_residual-in_err-piece.ensures.1 in
    rw (p.1, p.2) (cause_at c.in_err-piece.field-0.0 _ _ _ _ _
    (reads_within _ _ _ _ _ c.hand_over.new.self c.replaying.left _ _
    (reads_sent _ _ _ _ _ c.replaying.replayer c.hand_over.new.self c.replaying.left c.replaying.invariant.1 c.in_ok-hand_over.ensures.ok)
    c.in_ok-count.ensures.gives (length-take-le c.in_ok-count.count c.read_piece.new.piece (omega (arith, c.in_ok-count.ensures.bound))) c.in_ok-count.ensures.fits)
    (c.in_ok-count.ensures.same ∙ c.replaying.invariant.2)
    (c.in_ok-hand_over.ensures.watched ∙ c.replaying.invariant.3) c.in_err-piece.ensures.noted)
