use Rattle.std.proofs.Common.{◌≡◌, ℕ, Some, length}
use Rattle.std.specs.Prelude.{slice_get}
use Rattle.graph_base.specs.Graphs.{phaser_at}
use Rattle.graph_runs.specs.Moments.{limits_at}
use Rattle.phase_any.specs.declared.any_phaser.AnyPhaser.{AnyPhaser}
use Rattle.phase_any.specs.Phasers.{PhaserStandsFor}
use Rattle.graph_runs.specs.Beginnings.{opening}
use Rattle.stream_job.proofs.opened_cores.opened_cores.Given as goal

-- the phasers before this one stand at the opening
abbrev pub invariant-loop-p : goal.invariant-loop-p
invariant-loop-p l =
    (length l.cores.items ≡ l.p)
    × ((p : ℕ) (core : AnyPhaser) → slice_get l.cores.items p ≡ Some core
    → PhaserStandsFor core (phaser_at l.job.graph p).op (limits_at l.job p)
    ((opening l.job).history p))
