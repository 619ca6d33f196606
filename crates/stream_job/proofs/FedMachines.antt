-- A machine stands at its moment whatever samples come behind those that were signalled.
use Rattle.std.proofs.Common.{◌≡◌, ℕ, ℤ, ◌<◌, List, None, length, arith}
use Rattle.std.proofs.lemmas.Option.{slice_get_within}
use Rattle.stream_lists.specs.Jobs.{Job, with_samples}
use Rattle.stream_lists.specs.Meetings.{meeting_line}
use Rattle.graph_runs.specs.Feeds.{Continues}
use Rattle.graph_runs.specs.Moments.{Moment}
use Rattle.graph_runs.proofs.FedNexts.{stands_fed}
use Rattle.graph_runs.proofs.FedRuns.{reachable_fed}
use Rattle.stream_job.specs.Machines.{IsMachineAt}
use Rattle.stream_job.specs.Places.{IsTaskAt, place_in_state}
use Rattle.stream_job.specs.declared.machine.Machine.{Machine}
use Rattle.stream_job.specs.declared.task_state.TaskState.{TaskState}

task_fed : (job : Job) (m : Moment) (more : List (List ℤ)) (t : ℕ) (state : TaskState)
    → Continues job m more → t < length job.graph.tasks → IsTaskAt job m t state
    → IsTaskAt (with_samples more job) m t state
task_fed job m more t state goes there it = record {
  stands =
      stands_fed state.most job m more t (place_in_state state) (goes t there) it.stands;
  room = it.room;
  filter = it.filter;
  most = record { block = it.most.block; least = it.most.least; few = it.most.few };
  made_room = it.made_room;
  made_by = it.made_by;
  made_none = it.made_none;
  sink = it.sink;
}

-- but for two tasks that would meet
pub machine_fed : (job : Job) (m : Moment) (more : List (List ℤ)) (machine : Machine)
    → Continues job m more → meeting_line (with_samples more job) ≡ None
    → IsMachineAt job m machine → IsMachineAt (with_samples more job) m machine
machine_fed job m more machine goes apart at = record {
  graph = at.graph;
  apart = apart;
  reached = reachable_fed job m more at.graph at.reached goes;
  few = at.few;
  cores = record { many = at.cores.many; each = at.cores.each };
  tasks_many = at.tasks_many;
  lines_many = at.lines_many;
  tasks = λ t state found. task_fed job m more t state goes
      (let lt = slice_get_within machine.tasks.items t state found in
      let many = at.tasks_many in omega arith)
      (at.tasks t state found);
}
