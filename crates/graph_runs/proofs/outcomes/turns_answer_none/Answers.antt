-- Event by event.
use Rattle.graph_base.specs.Graphs.{task_at}
use Rattle.graph_runs.proofs.Stepping.{line_sizes}
use Rattle.graph_runs.proofs.AnsweredInTurn.{opening_answers_none, turn_answers_none, turn_answers_one}
use Rattle.graph_runs.proofs.outcomes.turns_answer_none.Goals as goal

pub returns-clause-opening : goal.returns-clause-opening
returns-clause-opening c = opening_answers_none

pub returns-clause-none : goal.returns-clause-none
returns-clause-none c = λ job m t is reached none never.
    (let block = (task_at job.graph t).block in
    turn_answers_none block block job m t (line_sizes job t is) is reached none never)

pub returns-clause-last : goal.returns-clause-last
returns-clause-last c = λ job m t none.
    (let block = (task_at job.graph t).block in turn_answers_one block block job m t none)
