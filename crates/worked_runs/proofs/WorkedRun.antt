-- The worked run: its graph, and its parts from one moment to another.
use Rattle.std.proofs.Common.{◌≡◌, List, true, refl}
use Rattle.graph_base.specs.TaskLines.{IsGraph}
use Rattle.stream_lists.specs.Jobs.{Job}
use Rattle.graph_runs.specs.Moments.{Moment, HasRun}
use Rattle.graph_runs.specs.Settled.{IsReady}
use Rattle.worked_runs.specs.Runs.{TaskEvent, AreNext, HasRunThrough, after_all}
use Rattle.worked_runs.specs.Worked.{worked}
use Rattle.worked_runs.proofs.GraphTests.{is_graph}
use Rattle.worked_runs.proofs.RunTests.{are_next, run_to_the_end}

pub worked-is : IsGraph worked.graph
worked-is = (is_graph worked.graph).sound refl

pub worked-ready : IsReady worked
worked-ready = record { graph = worked-is; apart = refl }

-- that next events lead on
abbrev pub LeadOn : Type 0
LeadOn = (job : Job) (m : Moment) (turns : List TaskEvent) → IsGraph job.graph
    → AreNext job m turns → HasRun job m → HasRunThrough job m turns

pub part : LeadOn → (job : Job) (m : Moment) (turns : List TaskEvent) → IsGraph job.graph
    → (are_next job m turns).holds ≡ true → HasRun job m → HasRun job (after_all job m turns)
part lead job m turns is e ran =
    run_to_the_end job m turns (lead job m turns is ((are_next job m turns).sound e is) ran)
