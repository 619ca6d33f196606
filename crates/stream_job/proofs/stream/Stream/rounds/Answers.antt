-- In one more round one more event was made.
use Rattle.std.proofs.Common.{◌+◌, arith, subst}
use Rattle.stream_job.specs.Rounds.{of_look}
use Rattle.stream_job.specs.Streams.{StreamMoves}
use Rattle.stream_job.proofs.FedTurns.{moves_less, moves_on}
use Rattle.stream_job.proofs.Setting.{err_of}
use Rattle.stream_job.proofs.stream.Stream.rounds.Goals as goal

pub returns-in_err-before-clause-err : goal.returns-in_err-before-clause-err
returns-in_err-before-clause-err c =
    let n = c.loop.counter in
    err_of c.from_residual.result
    (moves_less (n + 0) 0 c.args.self.now c.round_or_look.new.self (omega arith)
    (moves_on n 0 c.args.self.now c.loop.self c.round_or_look.new.self c.loop.invariant.0
    c.in_err-before.ensures.err))

pub returns-in-Still-clause-moves : goal.returns-in-Still-clause-moves
returns-in-Still-clause-moves c =
    let n = c.loop.counter in
    let k = of_look 1 c.in_ok-before.field-0 in
    moves_less (n + k) 0 c.args.self.now c.round_or_look.new.self (omega arith)
    (moves_on n k c.args.self.now c.loop.self c.round_or_look.new.self c.loop.invariant.0
    c.in_ok-before.ensures.moves)

pub loop-preserved : goal.loop-preserved
loop-preserved c =
    let n = c.loop.counter in (
      moves_on n 1 c.args.self.now c.loop.self c.round_or_look.new.self c.loop.invariant.0
          (subst (λ l. StreamMoves (of_look 1 l) c.loop.self c.round_or_look.new.self)
          c.in_default.is c.in_ok-before.ensures.moves),
      c.round_or_look.ensures.met,
    )
