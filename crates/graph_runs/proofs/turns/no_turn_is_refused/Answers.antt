-- By what the table looks at, row by row.
use Rattle.std.proofs.Common.{◌≡◌, ℕ, Option, Some, None, true, is_some, refl, subst}
use Rattle.phase_accum.specs.Sends.{AreSends}
use Rattle.graph_base.specs.Graphs.{task_at}
use Rattle.graph_base.specs.TaskLines.{IsGraph}
use Rattle.stream_lists.specs.Jobs.{Job, samples_at}
use Rattle.stream_lists.specs.Ranges.{Where}
use Rattle.graph_runs.specs.Moments.{Moment}
use Rattle.graph_runs.specs.Answers.{Answer, makes, is_blocked, is_gone, has_made, is_refused, answer_of_turn, word_of_answer, turn_tells}
use Rattle.graph_runs.specs.Reached.{IsReachable}
use Rattle.graph_runs.proofs.NotRefused.{IsTold}
use Rattle.graph_runs.proofs.Stepping.{line_sizes}
use Rattle.graph_runs.proofs.Telling.{turn_told}
use Rattle.graph_runs.proofs.turns.no_turn_is_refused.Goals as goal

-- a turn by the line's block
told : (job : Job) (m : Moment) (t : ℕ) → IsGraph job.graph → AreSends (samples_at job t)
    → IsReachable job m → IsTold (answer_of_turn job m t)
told job m t is samples reached =
    let block = (task_at job.graph t).block in
    turn_told block block job m t (line_sizes job t is) is samples reached

pub returns-clause-answered : goal.returns-clause-answered
returns-clause-answered c = λ job m t is samples reached refused.
    subst IsTold refused (told job m t is samples reached)

pub returns-clause-told : goal.returns-clause-told
returns-clause-told c = λ job m t met is samples reached.
    word met job m t (told job m t is samples reached)
  where
    of_answer : (job : Job) (m : Moment) (answer : Answer) → IsTold answer
        → is_some (word_of_answer job m answer) ≡ true
    of_answer job m (makes event) is = refl
    of_answer job m is_blocked is = refl
    of_answer job m is_gone is = refl
    of_answer job m (has_made at) is = refl
    of_answer job m is_refused is = absurd is

    word : (met : Option Where) (job : Job) (m : Moment) (t : ℕ) → IsTold (answer_of_turn job m t)
        → is_some (turn_tells job met m t) ≡ true
    word (Some at) job m t is = refl
    word None job m t is = of_answer job m (answer_of_turn job m t) is
