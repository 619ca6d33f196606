use Rattle.std.proofs.Common.{length, map, subst}
use Rattle.std.specs.List.{range_with_len}
use mathlib.Core.List.{IsPrefix}
use Rattle.stream_lists.specs.Jobs.{with_samples}
use Rattle.stream_lists.specs.Lists.{numbers_of, taken_from}
use Rattle.stream_lists.specs.Spans.{span_in}
use Rattle.graph_base.specs.Graphs.{task_at}
use Rattle.graph_base.specs.TaskLines.{IsGraph}
use Rattle.graph_runs.specs.Moments.{started}
use Rattle.graph_runs.proofs.Joined.{whole}
use Rattle.graph_runs.proofs.StopsRight.{stop_fed, open_at}
use Rattle.graph_runs.proofs.Wholes.{has_run, sink_lines, has_input}
use Rattle.graph_runs.proofs.stops.stops_are_right.Goals as goal

pub returns : goal.returns
returns c = λ job samples more ended ends ready r fed.
    let is : IsGraph job.graph = ready.graph in
    let now = with_samples samples job in
    let s = stop_fed job samples ended ends is r in
    let m = whole now ends is s in
    let ran = has_run now ends is s in
    let goes = c.feeds_go_on.ensures.continues now ended m more ran
    (open_at job samples ended ends is r) fed in
    record {
      starts = map m.offset (range_with_len 0 (length job.graph.tasks));
      right = λ t there sink.
          (let job_now = started (with_samples more job) m in
          subst (λ l. IsPrefix l (taken_from (numbers_of job_now) (task_at job.graph t)
          (span_in job_now t) 0)) (sink_lines now ends is s t there sink)
          (c.taken_is_right.ensures now m more t 0 ready ran goes there
          (has_input job t is there sink)));
    }
