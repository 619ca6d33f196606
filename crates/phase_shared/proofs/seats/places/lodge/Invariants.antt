use Rattle.phase_shared.specs.Lodgings.{IsSameTurn, KnowsOfTurn}
use Rattle.phase_shared.proofs.seats.places.lodge.Given as goal

-- the turn is as it was
abbrev pub invariant-loop-lane : goal.invariant-loop-lane
invariant-loop-lane g l = IsSameTurn l.fn.turn l.turn (KnowsOfTurn l.fn.turn)
