-- By what the task has received there.
use Rattle.graph_base.specs.Graphs.{task_at}
use Rattle.graph_runs.specs.Moments.{input_at}
use Rattle.graph_runs.proofs.PartsLemmas.{with_history, sees_end}
use Rattle.graph_runs.proofs.parts.ends.Goals as goal

pub returns : goal.returns
returns c = λ job m t k n now is there part staying lt sees reply.
    let both = sees_end job m t k n now is there part sees staying lt reply in
    (with_history (input_at (task_at job.graph t) k) now m, both.0, both.1)
