-- Its samples go on, and it is registered or the run is over.
use Rattle.std.proofs.Common.{◌≡◌, ℕ, ℤ, true, not, List, Option, Some, None, is_some, refl}
use Rattle.std.proofs.lemmas.Bool.{and_parts}
use Rattle.stream_lists.specs.Jobs.{with_samples}
use Rattle.graph_runs.specs.Moments.{HasRun, Moment}
use Rattle.graph_runs.specs.Feeds.{IsFed}
use Rattle.graph_runs.specs.Nexts.{first_kept, first_missing}
use Rattle.graph_runs.proofs.FedFeeds.{feed_continues}
use Rattle.stream_job.specs.Streams.{IsStreamAt, StreamState, ended_at, first_full, first_hungry, is_some_live}
use Rattle.stream_job.proofs.FedStops.{done_dead, none_live}
use Rattle.stream_job.proofs.stream_gone.starts_are_in_time.Goals as goal
use Rattle.stream_job.proofs.stream_gone.starts_are_in_time.Goals.{After-starts_are_in_time}

none_missing : {X : Type 0} (o : Option X) → not (is_some o) ≡ true → o ≡ None
none_missing None e = refl
none_missing (Some x) e = absurd (cc)

-- the run of samples that go on
ran_on : (c : After-starts_are_in_time) (stream : StreamState) (s : List (List ℤ)) (m : Moment) (given : ℕ → List ℤ)
    (more : List (List ℤ)) → IsStreamAt stream s m given
    → IsFed (with_samples s stream.job) (ended_at stream) more
    → HasRun (with_samples more stream.job) m
ran_on c stream s m given more at fed =
    let job = with_samples s stream.job in
    c.runs_go_on.ensures.ran job m more at.machine.graph at.machine.reached.ran
    (feed_continues job (ended_at stream) m more at.machine.reached.ran at.stays_open fed)

pub returns-clause-left : goal.returns-clause-left
returns-clause-left c = λ stream s m given more t at fed ready there gone.
    c.starts_are_in_time.ensures.came (with_samples more stream.job) m t ready
    (ran_on c stream s m given more at fed) there
    (none_missing (first_missing stream.job m t)
    (and_parts (not (is_some (first_missing stream.job m t)))
    (not (is_some (first_kept stream.job m t))) gone).0)

pub returns-clause-done : goal.returns-clause-done
returns-clause-done c = λ stream s m given more t at fed ready there stops.
    let job = with_samples s stream.job in
    let over = c.all_gone.ensures.over job m at.machine.graph at.machine.reached
    (none_live job m (done_dead job (first_full job m given) (first_hungry job (ended_at stream) m)
    (is_some_live job m) stops.1)) in
    c.starts_are_in_time.ensures.over (with_samples more stream.job) m t ready
    (ran_on c stream s m given more at fed)
    (record { quiet = over.quiet; gone = over.gone }) there
