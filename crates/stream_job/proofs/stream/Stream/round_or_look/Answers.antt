-- The look goes on from where the round led.
use Rattle.std.proofs.Common.{◌+◌, arith}
use Rattle.stream_job.specs.Rounds.{of_look, of_moved}
use Rattle.stream_job.proofs.FedTurns.{moves_less, moves_on}
use Rattle.stream_job.proofs.Setting.{if_ok, on_err}
use Rattle.stream_job.proofs.stream.Stream.round_or_look.Goals as goal

pub returns-clause-moves : goal.returns-clause-moves
returns-clause-moves c =
    let n = of_moved c.in_ok-round.field-0 in
    if_ok c.look.result (λ look moves.
    moves_less (n + of_look 1 look) (of_look 1 look) c.args.self.now c.look.new.self (omega arith)
    (moves_on n (of_look 1 look) c.args.self.now c.round.new.self c.look.new.self
    c.in_ok-round.ensures.moves moves)) c.look.ensures.moves

pub returns-clause-err : goal.returns-clause-err
returns-clause-err c =
    let n = of_moved c.in_ok-round.field-0 in
    on_err c.look.result (λ moves.
    moves_less (n + 0) 0 c.args.self.now c.look.new.self (omega arith)
    (moves_on n 0 c.args.self.now c.round.new.self c.look.new.self c.in_ok-round.ensures.moves
    moves)) c.look.ensures.err
