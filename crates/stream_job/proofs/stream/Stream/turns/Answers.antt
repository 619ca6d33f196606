-- One more turn makes one more event.
use Rattle.std.proofs.Common.{◌+◌, arith, subst}
use Rattle.std.specs.Prelude.{nat_lt}
use Rattle.stream_job.specs.Rounds.{of_moved, of_went}
use Rattle.stream_job.specs.Streams.{StreamMoves}
use Rattle.stream_job.proofs.FedLooks.{moved_few}
use Rattle.stream_job.proofs.FedTurns.{moves_less, moves_on}
use Rattle.stream_job.proofs.Setting.{err_of}
use Rattle.stream_job.proofs.stream.Stream.turns.Goals as goal

pub loop-made-init : goal.loop-made-init
loop-made-init c = (
  moves_less (of_moved c.pass_on-passed.result) (of_moved c.pass_on-passed.result + 0)
      c.args.self.now c.pass_on-passed.new.self (omega arith) c.pass_on-passed.ensures.moves,
  c.pass_on-passed.ensures.met,
)

pub returns-in_err-turn-clause-err : goal.returns-in_err-turn-clause-err
returns-in_err-turn-clause-err c =
    let n = of_moved c.pass_on-passed.result + c.loop-made.made in
    err_of c.from_residual.result
    (moves_less (n + 0) 0 c.args.self.now c.turn.new.self (omega arith)
    (moves_on n 0 c.args.self.now c.loop-made.self c.turn.new.self c.loop-made.invariant.0
    c.in_err-turn.ensures.err))

pub returns-then-passed-clause-moves : goal.returns-then-passed-clause-moves
returns-then-passed-clause-moves c =
    let n = of_moved c.pass_on-passed.result + c.loop-made.made in
    let k = of_went c.in_ok-turn.field-0 in
    moves_less (n + k) (of_moved c.pass_on-passed.result) c.args.self.now c.turn.new.self
    (omega arith)
    (moves_on n k c.args.self.now c.loop-made.self c.turn.new.self c.loop-made.invariant.0
    c.in_ok-turn.ensures.moves)

pub returns-else-passed-clause-moves : goal.returns-else-passed-clause-moves
returns-else-passed-clause-moves c =
    let made = c.loop-made.made in
    let n = of_moved c.pass_on-passed.result + made in
    let k = of_went c.in_ok-turn.field-0 in
    let few = moved_few made in
    moves_less (n + k) (of_moved (nat_lt 0 made)) c.args.self.now c.turn.new.self (omega arith)
    (moves_on n k c.args.self.now c.loop-made.self c.turn.new.self c.loop-made.invariant.0
    c.in_ok-turn.ensures.moves)

pub loop-made-preserved : goal.loop-made-preserved
loop-made-preserved c =
    let n = of_moved c.pass_on-passed.result + c.loop-made.made in (
      subst (λ k. StreamMoves k c.args.self.now c.turn.new.self) (omega arith)
          (moves_on n 1 c.args.self.now c.loop-made.self c.turn.new.self c.loop-made.invariant.0
          (subst (λ w. StreamMoves (of_went w) c.loop-made.self c.turn.new.self) c.in-On.is
          c.in_ok-turn.ensures.moves)),
      c.turn.ensures.met,
    )
