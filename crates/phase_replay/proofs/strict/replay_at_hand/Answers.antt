use Rattle.std.proofs.Common.{[]}
use Rattle.std.proofs.lemmas.Result.{on_err_weaker, on_ok_weaker, err_from_is_err_and}
use Rattle.phase_replay.proofs.Going.{goes_ended, goes_failed}
use Rattle.phase_replay.proofs.Owing.{owes_piece}
use Rattle.phase_replay.specs.Replies.{replies_of}
use Rattle.phase_replay.proofs.strict.replay_at_hand.Goals as goal

-- The replies to the first lines were written, or a prefix of them.
pub returns-in_err-piece-clause-err : goal.returns-in_err-piece-clause-err
returns-in_err-piece-clause-err g c =
    let p = err_from_is_err_and c.from_residual.result c.from_residual.ensures.1 in
    rw p.1 (c.in_err-piece.ensures.err [] (replies_of c.args.text.now)
    (owes_piece c.new-replayer.result c.args.text.now c.new-replayer.ensures))

-- All lines were answered, and the replies that were left are written.
pub returns-clause-ok : goal.returns-clause-ok
returns-clause-ok g c =
    let text = c.args.text.now in
    let goes = c.in_ok-piece.ensures.ok [] (replies_of text)
    (owes_piece c.new-replayer.result text c.new-replayer.ensures) in
    on_ok_weaker c.finish.result
    (λ ends. goes_ended _ _ _ c.piece.new.self [] (replies_of text) goes ends) c.finish.ensures.ok

-- A prefix of those was.
pub returns-clause-err : goal.returns-clause-err
returns-clause-err g c =
    let text = c.args.text.now in
    let goes = c.in_ok-piece.ensures.ok [] (replies_of text)
    (owes_piece c.new-replayer.result text c.new-replayer.ensures) in
    on_err_weaker c.finish.result
    (λ stops. goes_failed _ _ _ c.piece.new.self [] (replies_of text) goes stops) c.finish.ensures.err
