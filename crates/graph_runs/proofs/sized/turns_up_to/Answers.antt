-- As of turns by the table.
use Rattle.std.proofs.Common.{subst}
use Rattle.graph_runs.proofs.AnsweredInTurn.{turn_answers_none, turn_answers_one}
use Rattle.graph_runs.proofs.FedFaults.{fault_fed}
use Rattle.graph_runs.proofs.NotRefused.{IsTold}
use Rattle.graph_runs.proofs.SizedTurns.{turn_reached}
use Rattle.graph_runs.proofs.Telling.{turn_told}
use Rattle.graph_runs.proofs.Turning.{turn_makes_next}
use Rattle.graph_runs.proofs.sized.turns_up_to.Goals as goal

pub returns-clause-next : goal.returns-clause-next
returns-clause-next c = λ steps most job m t event sized is reached answer.
    turn_makes_next steps most job m t event sized is reached.ran (λ d due. reached.to_come)
    answer

pub returns-clause-reached : goal.returns-clause-reached
returns-clause-reached c = turn_reached

pub returns-clause-answered : goal.returns-clause-answered
returns-clause-answered c = λ steps most job m t sized is samples reached refused.
    subst IsTold refused (turn_told steps most job m t sized is samples reached)

pub returns-clause-none : goal.returns-clause-none
returns-clause-none c = turn_answers_none

pub returns-clause-last : goal.returns-clause-last
returns-clause-last c = turn_answers_one

pub returns-clause-faults : goal.returns-clause-faults
returns-clause-faults c = λ steps most job m t at samples sized ready reached told goes.
    fault_fed steps most job m t at samples sized ready reached
    (turn_reached steps most job m t sized ready.graph reached).ran told goes
