-- What the calls of C on a graph that is fed do to the run behind a handle.
use Rattle.std.specs.Prelude.{◌≡◌, ◌≢◌, ℕ, ℤ, ◌<◌, ◌≤◌, ◌⊎◌, ◌++◌, List, Option, Some, None, Ok, Err, length, map, take, drop, get_or, false}
use mathlib.Core.List.{IsPrefix}
use Rattle.graph_commands.specs.Explained.{AreFurtherLines}
use Rattle.graph_lang.specs.Reads.{ReadsText}
use Rattle.graph_text.specs.Texts.{lines_of as text_lines}
use Rattle.graph_lang.specs.declared.fault.FaultKind.TheVariants.{AnyMeets}
use Rattle.graph_lang.specs.declared.fault.GraphRefusal.{GraphRefusal}
use Rattle.graph_lang.specs.declared.fault.GraphRefusal.TheVariants as refusal
use Rattle.graph_base.specs.Graphs.{Graph, sources_of, task_at}
use Rattle.graph_base.specs.declared.place.Place.{Place}
use Rattle.phase_accum.specs.Sends.{AreSends}
use Rattle.stream_lists.specs.Jobs.{counted, with_samples}
use Rattle.stream_lists.specs.Lists.{numbers_of, sinks_of, taken_from}
use Rattle.stream_lists.specs.Meetings.{meeting_line}
use Rattle.stream_lists.specs.Ranges.{answer_of}
use Rattle.stream_lists.specs.Spans.{span_in}
use Rattle.graph_runs.specs.Beginnings.{opening}
use Rattle.graph_runs.specs.Feeds.{IsFed}
use Rattle.graph_runs.specs.Moments.{Moment, started}
use Rattle.graph_runs.specs.Settled.{IsFaultAt, IsReady}
use Rattle.graph_runs.specs.Turned.{with_at}
use Rattle.stream_job.specs.Machines.{kept_behind, none_given}
use Rattle.stream_job.specs.SinkLines.{kept_by, sink_begins_at}
use Rattle.stream_job.specs.Streams.{FeedTakes, IsSameBut, IsStreamAt, Meets, StreamState, StreamStopsAt, ended_at, ended_with, fed, has_ended, most_of, none_came}
use Rattle.stream_job.specs.declared.stopped.Stopped.{Stopped}
use Rattle.stream_job.specs.declared.stopped.Stopped.TheVariants.{Done, TooBig}
use Rattle.graph_numbers.specs.declared.fault.PhaseCounts.{PhaseCounts}

-- ---- a text

-- the run is that of the graph of a text, at its opening: no samples came, and no source has ended
pub record OpensText (text : List ℕ) (run : StreamState) : Type 0 where
  pub reads : ReadsText (text_lines text) (Ok run.job.graph)
  pub opening_is : IsStreamAt run (none_came run.job) (opening run.job) none_given
  pub met : run.met ≡ None
  pub open_is : (source : ℕ) → source < sources_of run.job.graph
      → has_ended run.inputs source ≡ false

-- the text reads as a graph, on which the task of this line is the first that meets one of an
-- earlier line, were there as many samples as there may be
pub record MayMeetAt (text : List ℕ) (line : ℕ) : Type 0 where
  pub graph : Graph
  pub reads : ReadsText (text_lines text) (Ok graph)
  pub meets : meeting_line (counted graph (most_of graph)) ≡ Some line

-- why a text gives no run: its first fault, or two tasks that may meet; or memory ran out
abbrev pub RefusesRun : List ℕ → GraphRefusal → Type 0
RefusesRun text (refusal.Fault found) =
    ReadsText (text_lines text) (Err found)
    ⊎ ((found.kind ≡ AnyMeets) × MayMeetAt text found.line)
RefusesRun text refusal.OutOfMemory = Unit {0}

-- how many of each its graph has
pub record HasCounts (run : StreamState) (counts : PhaseCounts) : Type 0 where
  pub phasers : counts.phasers ≡ length run.job.graph.phasers
  pub tasks : counts.tasks ≡ length run.job.graph.tasks
  pub sources : counts.sources ≡ sources_of run.job.graph
  pub sinks : counts.sinks ≡ length (sinks_of run.job)

-- ---- samples

-- a source took so many of these samples, as many as it has room for, and they are fed
pub record Feeds (source : ℕ) (samples : List ℤ) (old new : StreamState) (took : ℕ) : Type 0 where
  pub took_is : (s : List (List ℤ)) (m : Moment) (given : ℕ → List ℤ) → IsStreamAt old s m given
      → FeedTakes old s m source (length samples) took
  pub fed_are : (s : List (List ℤ)) (m : Moment) (given : ℕ → List ℤ) → IsStreamAt old s m given
      → IsStreamAt new (fed s source (take took samples)) m given
  pub others : IsSameBut old new
  pub ended : (k : ℕ) → has_ended new.inputs k ≡ has_ended old.inputs k

-- a source was told that no more samples come
pub record Finishes (source : ℕ) (old new : StreamState) : Type 0 where
  pub stands : (s : List (List ℤ)) (m : Moment) (given : ℕ → List ℤ) → IsStreamAt old s m given
      → IsStreamAt new s m given
  pub others : IsSameBut old new
  pub ended : (k : ℕ) → has_ended new.inputs k ≡ ended_with old.inputs source k

-- ---- a stop

-- the run stopped so: where it is done its sinks got what the definitions give of every run whose
-- samples go on so, and a value out of range is so in each of them and told where no task makes an
-- event but those that stand before one
pub record StopsFor (run : StreamState) (stop : Stopped) : Type 0 where
  pub stops : (s : List (List ℤ)) (m : Moment) (given : ℕ → List ℤ) → IsStreamAt run s m given
      → StreamStopsAt run s m given stop
  pub done : stop ≡ Done → (s : List (List ℤ)) (m : Moment) (given : ℕ → List ℤ)
      (more : List (List ℤ)) → IsStreamAt run s m given
      → IsFed (with_samples s run.job) (ended_at run) more → IsReady (with_samples more run.job)
      → answer_of (started (with_samples more run.job) m)
      ≡ Ok (map (kept_behind given) run.machine.lines.items)
  pub too_big : (place : Place) (n : ℕ) → stop ≡ TooBig place n → (s : List (List ℤ)) (m : Moment)
      (given : ℕ → List ℤ) (more : List (List ℤ)) → IsStreamAt run s m given
      → IsFed (with_samples s run.job) (ended_at run) more → IsReady (with_samples more run.job)
      → IsFaultAt (started (with_samples more run.job) m) (place, n)
  pub meets : (place : Place) (n : ℕ) → stop ≡ TooBig place n → (s : List (List ℤ)) (m : Moment)
      (given : ℕ → List ℤ) → IsStreamAt run s m given
      → Meets (with_samples s run.job) (ended_at run) m given (place, n)

-- ---- values

-- a sink has these values: behind those that it has handed over they are what it has kept, and they
-- begin what it takes in every run whose samples go on so
pub record HasValues (sink : ℕ) (run : StreamState) (values : List ℤ) : Type 0 where
  pub kept : (s : List (List ℤ)) (m : Moment) (given : ℕ → List ℤ) → IsStreamAt run s m given
      → let t = get_or (sinks_of run.job) sink 0 in given t ++ values ≡ kept_by run.job m t
  pub right : (s : List (List ℤ)) (m : Moment) (given : ℕ → List ℤ) (more : List (List ℤ))
      → IsStreamAt run s m given → IsFed (with_samples s run.job) (ended_at run) more
      → IsReady (with_samples more run.job) → let t = get_or (sinks_of run.job) sink 0 in
      let job = started (with_samples more run.job) m in
      IsPrefix (given t ++ values)
      (taken_from (numbers_of job) (task_at job.graph t) (span_in job t) 0)

-- a sink's values were written in the first places, and what stands behind them stays; it has
-- handed them over, and else nothing changed
pub record HandsOver (sink : ℕ) (old_values new_values : List ℤ) (old new : StreamState)
    (count : ℕ) : Type 0 where
  pub values : List ℤ
  pub has : HasValues sink old values
  pub count_is : count ≡ length values
  pub enough : length values ≤ length old_values
  pub written : new_values ≡ values ++ drop (length values) old_values
  pub handed : (s : List (List ℤ)) (m : Moment) (given : ℕ → List ℤ) → IsStreamAt old s m given
      → let t = get_or (sinks_of old.job) sink 0 in
      IsStreamAt new s m (with_at t (kept_by old.job m t) given)
  pub others : (new.job ≡ old.job) × (new.met ≡ old.met) × (new.inputs ≡ old.inputs)

-- a sink has more values than there are places
pub record LacksRoom (sink room : ℕ) (run : StreamState) (count : ℕ) : Type 0 where
  pub values : List ℤ
  pub has : HasValues sink run values
  pub count_is : count ≡ length values
  pub short : room < length values

-- where a sink that joins now begins, once it is registered
abbrev pub BeginsAt : ℕ → StreamState → Option ℕ → Type 0
BeginsAt sink run start = (s : List (List ℤ)) (m : Moment) (given : ℕ → List ℤ)
    → IsStreamAt run s m given
    → sink_begins_at run.job m (get_or (sinks_of run.job) sink 0) ≡ start

-- ---- how its tasks stand

-- lines for a person were written in the first places, and what stands behind them stays
pub record WritesLines (old new : List ℕ) (count : ℕ) : Type 0 where
  pub lines : List ℕ
  pub are : AreFurtherLines lines
  pub count_is : count ≡ length lines
  pub enough : length lines ≤ length old
  pub written : new ≡ lines ++ drop (length lines) old
