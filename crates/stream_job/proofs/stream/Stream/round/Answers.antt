-- One more task's turns go on from where the others led.
use Rattle.std.proofs.Common.{◌+◌, ◌||◌, arith}
use Rattle.stream_job.specs.Rounds.{of_moved}
use Rattle.stream_job.proofs.FedLooks.{moved_either}
use Rattle.stream_job.proofs.FedTurns.{moves_less, moves_on}
use Rattle.stream_job.proofs.Setting.{err_of}
use Rattle.stream_job.proofs.stream.Stream.round.Goals as goal

pub returns-in_err-moved-clause-err : goal.returns-in_err-moved-clause-err
returns-in_err-moved-clause-err c =
    let n = of_moved c.loop-t.moved in
    err_of c.from_residual.result
    (moves_less (n + 0) 0 c.args.self.now c.turns.new.self (omega arith)
    (moves_on n 0 c.args.self.now c.loop-t.self c.turns.new.self c.loop-t.invariant.0
    c.in_err-moved.ensures.err))

pub loop-t-preserved : goal.loop-t-preserved
loop-t-preserved c =
    let n = of_moved c.loop-t.moved in
    let k = of_moved c.in_ok-moved.field-0 in
    let few = moved_either c.loop-t.moved c.in_ok-moved.field-0 in (
      moves_less (n + k) (of_moved (c.loop-t.moved || c.in_ok-moved.field-0)) c.args.self.now
          c.turns.new.self (omega arith)
          (moves_on n k c.args.self.now c.loop-t.self c.turns.new.self c.loop-t.invariant.0
          c.in_ok-moved.ensures.moves),
      c.turns.ensures.met,
    )
