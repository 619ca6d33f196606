-- It goes on by rounds, and keeps where a value out of range is.
use Rattle.std.proofs.Common.{◌≡◌, List, length, sym, ap, subst, ◌∙◌}
use Rattle.std.specs.Prelude.{Ok, map}
use Rattle.graph_base.specs.Graphs.{source_number}
use Rattle.stream_lists.specs.Jobs.{Job, with_samples}
use Rattle.stream_lists.specs.Ranges.{answer_of}
use Rattle.graph_runs.specs.Feeds.{IsFed}
use Rattle.graph_runs.specs.Moments.{started}
use Rattle.graph_runs.specs.Settled.{IsReady}
use Rattle.graph_runs.proofs.FedFeeds.{feed_continues}
use Rattle.stream_job.specs.Machines.{kept_behind}
use Rattle.stream_job.specs.Rounds.{LookTells, LooksSo, StopsSo, met_in}
use Rattle.stream_job.specs.Streams.{Meets, StreamStopsAt, ended_at, first_full, first_hungry, has_ended, is_some_live}
use Rattle.stream_job.specs.declared.input.Input.{Input}
use Rattle.stream_job.specs.declared.machine.Machine.{Machine}
use Rattle.stream_job.specs.declared.stopped.Stopped.TheVariants as stopped
use Rattle.stream_job.proofs.FedRuns.{meets_so, same_run}
use Rattle.stream_job.proofs.FedStops.{done_dead, none_live}
use Rattle.stream_job.proofs.SinksKeep.{lines_taken}
use Rattle.stream_job.proofs.stream.Stream.run.Goals as goal
use Rattle.stream_job.proofs.stream.Stream.run.Goals.{In-Still}

-- what was looked at
looked : (c : In-Still) → LooksSo c.settle.new.self (length c.settle.new.self.job.graph.tasks)
    c.in-Still.before
looked c =
    subst (LookTells c.settle.new.self) c.in-Still.is c.in_ok-before.ensures.tells

pub returns-clause-done : goal.returns-clause-done
returns-clause-done c = λ done s m given more at fed ready.
    let stream = c.settle.new.self in
    let job = with_samples s stream.job in
    let was = c.meet.ensures.stood s m given at in
    let stops : StreamStopsAt stream s m given stopped.Done =
    subst (StopsSo stream s m given c.in-Still.before) done
    (c.stop-stop.ensures.stops s m given was) in
    let dead = none_live job m (done_dead job (first_full job m given)
    (first_hungry job (ended_at stream) m) (is_some_live job m) stops.1) in
    let P : Job → Machine → List Input → Type 0 = λ j machine inputs.
    IsFed (with_samples s j) (λ t. has_ended inputs (source_number j.graph.tasks t)) more
    → IsReady (with_samples more j)
    → answer_of (started (with_samples more j) m)
    ≡ Ok (map (kept_behind given) machine.lines.items) in
    same_run P stream c.meet.new.self c.meet.ensures.others
    (λ fed ready. c.all_gone.ensures.answer (with_samples more stream.job) m ready
    (c.runs_go_on.ensures.reachable job m more was.machine.graph was.machine.reached
    (feed_continues job (ended_at stream) m more was.machine.reached.ran was.stays_open fed))
    dead was.none
    ∙ ap (λ l. Ok l)
    (sym (was.lines.values
    ∙ lines_taken job m was.machine.graph was.machine.reached.ran was.none))) fed ready

-- It was met, whatever comes.
pub returns-clause-too_big : goal.returns-clause-too_big
returns-clause-too_big c = λ place n is s m given more at fed ready.
    let stream = c.meet.new.self in
    let job = with_samples s stream.job in
    at.faults (place, n) more (c.meet.ensures.met ∙ ap met_in is)
    (feed_continues job (ended_at stream) m more at.machine.reached.ran at.stays_open fed) ready

pub returns-clause-meets : goal.returns-clause-meets
returns-clause-meets c = λ place n is s m given at.
    let stream = c.settle.new.self in
    let here = (goal.at.returns-clause-meets c).In-Still in
    let was = c.meet.ensures.stood s m given at in
    let stops = subst (StopsSo stream s m given c.in-Still.before) is
    (c.stop-stop.ensures.stops s m given was) in
    let P : Job → Machine → List Input → Type 0 = λ j machine inputs.
    Meets (with_samples s j) (λ t. has_ended inputs (source_number j.graph.tasks t)) m given
    (place, n) in
    same_run P stream c.meet.new.self c.meet.ensures.others
    (meets_so stream s m given c.in-Still.before (place, n) stops.0 stops.1
    (looked here s m given was))

pub returns-clause-paused : goal.returns-clause-paused
returns-clause-paused c = λ is. absurd (c.stop-stop.ensures.paused is)
