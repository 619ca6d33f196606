-- Every phaser that it reads composes its list.
use Rattle.graph_runs.specs.Moments.{started}
use Rattle.graph_runs.proofs.Started.{ready_as, run_started}
use Rattle.graph_runs.proofs.Results.{taken_begin}
use Rattle.graph_runs.proofs.moments.takes.Goals as goal

pub returns : goal.returns
returns c = λ job m t k ready ran.
    taken_begin (started job m) m t k (ready_as job m ready) (run_started job m ran)
