use Rattle.std.proofs.Common.{◌≡◌, true}
use Rattle.turn_lock.specs.Seats.{turn_view, turn_value}
use Rattle.phase_shared.specs.Servings.{Serving, ServingOpen}
use Rattle.phase_shared.specs.Goods.{allows_or}
use Rattle.phase_shared.proofs.seats.desk.OnTurn.wait_all.Given as goal

-- it goes on under its turn; where each wait was made, it has served all lanes so far
abbrev pub invariant-loop-lane : goal.invariant-loop-lane
invariant-loop-lane g l =
    ServingOpen g.A.Accumulate.operation g.S.Since.terms.limits (allows_or g.K.SignalRule.allows g.S.Since.terms.rule) g.S.Since.ask g.S.Since.seen true (turn_view l.on.turn) (turn_value l.on.turn)
    × (l.is_all ≡ true → Serving g.A.Accumulate.operation g.S.Since.terms.limits (allows_or g.K.SignalRule.allows g.S.Since.terms.rule) g.S.Since.ask g.S.Since.seen true l.lane (turn_view l.on.turn) (turn_value l.on.turn))
