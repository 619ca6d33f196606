-- By what the table looks at, and then by the law of the event.
use Rattle.graph_runs.proofs.Stepping.{line_sizes}
use Rattle.graph_runs.proofs.Turning.{turn_makes_next, childless_makes_next}
use Rattle.graph_runs.proofs.SizedTurns.{event_keeps}
use Rattle.graph_base.specs.Graphs.{task_at}
use Rattle.graph_runs.proofs.turns.turns_make_next_events.Goals as goal

pub returns-clause-next : goal.returns-clause-next
returns-clause-next c = λ job m t event is ran to_come answer.
    (let block = (task_at job.graph t).block in
    turn_makes_next block block job m t event (line_sizes job t is) is ran (λ d due. to_come)
    answer)

pub returns-clause-keeps : goal.returns-clause-keeps
returns-clause-keeps c = λ job m t event is ran to_come answer.
    (let block = (task_at job.graph t).block in
    event_keeps job m event is
    (turn_makes_next block block job m t event (line_sizes job t is) is ran (λ d due. to_come)
    answer) ran)

pub returns-clause-childless : goal.returns-clause-childless
returns-clause-childless c = λ job m t event is ran due answer.
    (let block = (task_at job.graph t).block in
    let next = childless_makes_next block block job m t event (line_sizes job t is) is ran due
    answer in
    (next, event_keeps job m event is next ran))
