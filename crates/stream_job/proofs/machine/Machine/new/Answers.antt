-- The parts are those of the opening, which is reached.
use Rattle.std.proofs.Common.{◌≡◌, length, subst, ◌∙◌, arith}
use Rattle.graph_base.specs.TaskLines.{IsGraph}
use Rattle.graph_runs.specs.Beginnings.{opening}
use Rattle.graph_runs.proofs.AtOpening.{opening_has_begun}
use Rattle.graph_runs.proofs.Reaching.{begun_reached}
use Rattle.stream_job.proofs.Mosts.{element, most_is}
use Rattle.stream_job.proofs.Numbering.{opening_uses_few}
use Rattle.stream_job.proofs.machine.Machine.new.Goals as goal

pub returns-clause-opening : goal.returns-clause-opening
returns-clause-opening c =
    let job = c.args.job.now in
    let is = subst IsGraph c.graph.ensures.graph c.tasks-tasks.ensures.graph in
    record {
      graph = is;
      apart = c.graph.ensures.apart;
      reached = begun_reached job (opening job) is (opening_has_begun job is);
      few = opening_uses_few job;
      cores = record {
        many = c.in_ok-opened_cores.ensures.many;
        each = c.in_ok-opened_cores.ensures.cores;
      };
      tasks_many = c.in_ok-opened_tasks.ensures.many;
      tasks = λ t state found. (c.in_ok-opened_tasks.ensures.tasks t state found).at;
      lines_many = c.requires.lines;
    }

pub returns-clause-sizes : goal.returns-clause-sizes
returns-clause-sizes c = λ one t there.
    let tasks = c.in_ok-opened_tasks.field-0.items in
    let many : length tasks ≡ length c.args.job.now.graph.tasks =
    c.in_ok-opened_tasks.ensures.many in
    let some = element tasks t (omega arith) in
    most_is record {
      cores = c.in_ok-opened_cores.field-0;
      tasks = c.in_ok-opened_tasks.field-0;
      lines = c.args.lines;
    } t some.0 some.1
    ∙ (c.in_ok-opened_tasks.ensures.tasks t some.0 some.1).line one
