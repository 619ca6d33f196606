-- By what the turn answers: a wait's outcome, or a value that was made.
use Rattle.graph_base.specs.Graphs.{task_at}
use Rattle.graph_runs.proofs.Stepping.{line_sizes}
use Rattle.graph_runs.proofs.ToldFaults.{told_fault}
use Rattle.graph_runs.proofs.outcomes.told_is_a_fault.Goals as goal

pub returns : goal.returns
returns c = λ job m t at ready reached.
    (let block = (task_at job.graph t).block in
    told_fault block block job m t at (line_sizes job t ready.graph) ready reached (λ event answer.
    c.turns_make_next_events.ensures.keeps job m t event ready.graph reached.ran reached.to_come
    answer))
