use Rattle.stream_lists.specs.Jobs.{with_samples}
use Rattle.graph_runs.proofs.FedRuns.{run_fed}
use Rattle.graph_runs.proofs.feeds.taken_is_right.Goals as goal

pub returns : goal.returns
returns c = λ job m samples t k ready ran goes there lt.
    c.takes.ensures (with_samples samples job) m t k ready (run_fed job m samples ready.graph ran goes) there lt
