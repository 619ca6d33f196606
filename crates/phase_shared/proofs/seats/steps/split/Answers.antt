use Rattle.turn_lock.specs.Seats.{seat_view, seat_number}
use Rattle.phase_shared.specs.Views.{known_of}
use Rattle.phase_shared.specs.LockedPhasers.{locked_terms}
use Rattle.phase_shared.proofs.RegisterSteps.{forks_child}
use Rattle.phase_shared.proofs.seats.steps.split.Goals as goal

pub split-requires-clause-rule : goal.split-requires-clause-rule
split-requires-clause-rule g c =
    let two = c.requires.knows in
    forks_child g.A.Accumulate.operation g.K.SignalRule.allows (locked_terms c.args.phaser.now) two.one (seat_number c.args.seat)
    (seat_view c.args.seat) (known_of (seat_view c.args.seat)).seen two.other two.rests
