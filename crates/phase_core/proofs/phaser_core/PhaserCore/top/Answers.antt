-- It stands for a history on slots and of values alone.
use Rattle.phase_core.proofs.Phasers.{phaser_shows}
use Rattle.phase_core.proofs.phaser_core.PhaserCore.top.Goals as goal

pub returns-clause-stands : goal.returns-clause-stands
returns-clause-stands g c =
    let shows = phaser_shows g.A.Accumulate.operation c.self.inside.registry c.self.inside.store
    c.self.invariant in
    (shows.history, rw (← c.self.view_is) shows.stands)
