-- Every phaser composes its list.
use Rattle.graph_runs.specs.Moments.{started}
use Rattle.graph_runs.proofs.Started.{ready_as, run_started}
use Rattle.graph_runs.proofs.Whole.{stands_all, puts_all}
use Rattle.graph_runs.proofs.moments.members.Goals as goal

pub returns-clause-stands : goal.returns-clause-stands
returns-clause-stands c = λ job m t ready ran.
    stands_all (started job m) m (ready_as job m ready) (run_started job m ran) t

pub returns-clause-puts : goal.returns-clause-puts
returns-clause-puts c = λ job m t j ready ran.
    puts_all (started job m) m (ready_as job m ready) (run_started job m ran) t j
