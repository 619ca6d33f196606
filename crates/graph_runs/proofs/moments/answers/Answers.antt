-- In the end each task has taken all that the definitions take, and each of it is a value.
use Rattle.graph_runs.specs.Moments.{started}
use Rattle.graph_runs.proofs.Started.{ready_as, run_started}
use Rattle.graph_runs.proofs.TooBigs.{answer_is}
use Rattle.graph_runs.proofs.moments.answers.Goals as goal

pub returns : goal.returns
returns c = λ job m ready ran over.
    answer_is (started job m) m (ready_as job m ready) (run_started job m ran)
    (record { quiet = over.quiet; gone = over.gone })
