-- By what the turn answers, and for turns in a row one after the other.
use Rattle.std.proofs.Common.{ℕ, List, [], ◌∷◌}
use Rattle.graph_base.specs.Graphs.{task_at}
use Rattle.graph_base.specs.TaskLines.{IsGraph}
use Rattle.stream_lists.specs.Jobs.{Job}
use Rattle.graph_runs.specs.Moments.{Moment}
use Rattle.graph_runs.specs.Answers.{answer_of_turn, after_answer, after_turns}
use Rattle.graph_runs.specs.Reached.{IsReachable}
use Rattle.graph_runs.proofs.Reaching.{begun_reached}
use Rattle.graph_runs.proofs.Stepping.{line_sizes}
use Rattle.graph_runs.proofs.SizedTurns.{turn_reached}
use Rattle.graph_runs.proofs.turns.turns_stay_reached.Goals as goal

-- of a turn by the line's block
after_one : (job : Job) (m : Moment) (t : ℕ) → IsGraph job.graph → IsReachable job m
    → IsReachable job (after_answer job (answer_of_turn job m t) m)
after_one job m t is reached =
    let block = (task_at job.graph t).block in
    turn_reached block block job m t (line_sizes job t is) is reached

pub returns-clause-opening : goal.returns-clause-opening
returns-clause-opening c = begun_reached

pub returns-clause-turn : goal.returns-clause-turn
returns-clause-turn c = after_one

pub returns-clause-turns : goal.returns-clause-turns
returns-clause-turns c = λ job m ts is reached. in_a_row job is ts m reached
  where
    in_a_row : (job : Job) → IsGraph job.graph → (ts : List ℕ) (m : Moment) → IsReachable job m
        → IsReachable job (after_turns job m ts)
    in_a_row job is [] m reached = reached
    in_a_row job is (t ∷ ts) m reached =
        in_a_row job is ts (after_answer job (answer_of_turn job m t) m)
        (after_one job m t is reached)
