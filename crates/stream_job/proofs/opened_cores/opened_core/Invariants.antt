use Rattle.graph_base.specs.Graphs.{phaser_at}
use Rattle.graph_runs.specs.Moments.{limits_at}
use Rattle.phase_any.specs.Phasers.{PhaserStandsFor}
use Rattle.graph_runs.specs.Beginnings.{roots_joined}
use Rattle.stream_job.proofs.opened_cores.opened_core.Given as goal

-- the founder has registered those of the tasks before this one
abbrev pub invariant-loop-t : goal.invariant-loop-t
invariant-loop-t l =
    PhaserStandsFor l.core (phaser_at l.job.graph l.p).op (limits_at l.job l.p)
    (roots_joined l.job l.p l.t)
