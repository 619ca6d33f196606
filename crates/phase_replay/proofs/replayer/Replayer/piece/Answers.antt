use Rattle.std.proofs.Common.{◌+◌, ◌++◌, ◌∙◌, drop, refl, arith}
use Rattle.std.proofs.lemmas.List.{take_rest}
use Rattle.std.proofs.lemmas.Result.{err_from_is_err_and}
use Rattle.phase_replay.proofs.Going.{goes_on, goes_further, goes_failed, goes_answered, length-left, none_said}
use Rattle.phase_replay.proofs.Owing.{owes_more}
use Rattle.phase_replay.proofs.replayer.Replayer.piece.Goals as goal

-- Memory ran out, and the replies that waited, or a prefix of them, were written.
pub returns-in_default-answer-clause-err : goal.returns-in_default-answer-clause-err
returns-in_default-answer-clause-err g c = λ later owed owes. goes_failed _ _ _ _ _ owed (c.loop-end.invariant.2 later owed owes)
    (λ rest owed_then. c.stop.ensures.prefix c.loop-end.self _ rest owed_then c.in_default-answer.ensures.err)

-- A write failed, after a prefix of what was owed before it.
pub returns-in_err-make_room-clause-err : goal.returns-in_err-make_room-clause-err
returns-in_err-make_room-clause-err g c =
    let p = err_from_is_err_and c.from_residual.result c.from_residual.ensures.1 in
    rw p.1 (λ later owed owes. goes_failed _ _ _ _ _ owed
    (goes_answered _ _ _ _ c.loop-end.rest.now c.in-Some.end later owed c.in-Some.ensures.0 c.in-Some.ensures.2
    c.in-Ok.ensures.ok (c.loop-end.invariant.2 later owed owes))
    (c.in_err-make_room.ensures.err (drop (c.in-Some.end + 1) c.loop-end.rest.now ++ later)))

-- The line's end is within the piece.
pub overflow_add-rest : goal.overflow_add-rest
overflow_add-rest g c = omega (arith, c.in-Some.ensures.0)

-- One more line is answered, and the replies that wait may be written.
pub loop-end-preserved : goal.loop-end-preserved
loop-end-preserved g c = (
  length-left _ _ _ c.loop-end.rest.now c.loop-end.invariant.0,
  c.in_ok-make_room.ensures.watched ∙ c.loop-end.invariant.1,
  λ later owed owes. rw take_rest (goes_further _ _ _ _ _ _ _ owed
      (goes_answered _ _ _ _ c.loop-end.rest.now c.in-Some.end later owed c.in-Some.ensures.0 c.in-Some.ensures.2
      c.in-Ok.ensures.ok (c.loop-end.invariant.2 later owed owes))
      (c.in_ok-make_room.ensures.ok (drop (c.in-Some.end + 1) c.loop-end.rest.now ++ later))),
)

-- No LF is left, and what is left is the prefix of a line.
pub returns-clause-ok : goal.returns-clause-ok
returns-clause-ok g c = λ later owed owes. goes_on _ _ _ _ _ later owed (c.loop-end.invariant.2 later owed owes)
    (λ rest. owes_more c.loop-end.self _ c.loop-end.rest.now later rest (none_said c.lf_of.result _ _ c.lf_of.ensures c.in_default.not-Some) refl refl c.extend.ensures)
