-- What a moment has of a job it has of the job with other starts.
use Rattle.std.proofs.Common.{◌≡◌, ℕ, ◌<◌, Option, Some, None, length, ap, ◌∙◌, arith}
use Rattle.std.specs.Prelude.{if◌then◌else◌, List}
use Rattle.std.proofs.lemmas.List.FromFn.{get_or-map-range_with_len}
use Rattle.graph_base.specs.Graphs.{task_at}
use Rattle.graph_base.specs.TaskLines.{IsGraph}
use Rattle.stream_lists.specs.Jobs.{Job, start_at, index_in, with_starts}
use Rattle.stream_lists.specs.Spans.{signalled_by}
use Rattle.stream_lists.specs.Meetings.{meeting_line}
use Rattle.stream_lists.proofs.Starts.{meetings_stay}
use Rattle.graph_runs.specs.Moments.{Moment, HasRun, PhaserRan, TaskRan, HasEnded, OnOutput, OnInput, OnPhaser, PutOn, TakenOn, input_at, started}
use Rattle.graph_runs.specs.Settled.{IsReady}

-- a graph that was read, no two tasks of which meet, in a job whose sinks that join now begin where
-- they do at a moment
pub record IsReadyAt (job : Job) (m : Moment) : Type 0 where
  pub graph : IsGraph job.graph
  pub apart : meeting_line job ≡ None
  pub starts : (t : ℕ) → t < length job.graph.tasks → start_at job t
      ≡ (if (task_at job.graph t).joins_now then m.offset t else 0)

pub phaser_as : (job : Job) (starts : List ℕ) (m : Moment) (p : ℕ) → PhaserRan job m p
    → PhaserRan (with_starts starts job) m p
phaser_as job starts m p r = record {
  legal = r.legal;
  names = r.names;
  distinct = r.distinct;
  used = r.used;
  strangers = r.strangers;
}

pub ended_as : (job : Job) (starts : List ℕ) (m : Moment) (t : ℕ) → HasEnded job m t
    → HasEnded (with_starts starts job) m t
ended_as job starts m t e = record { all_put = e.all_put; may_end = e.may_end }

out_as : (job : Job) (starts : List ℕ) (m : Moment) (t j p n : ℕ) → OnOutput job m t j p n
    → OnOutput (with_starts starts job) m t j p n
out_as job starts m t j p n on = record {
  start = on.start;
  start_is = on.start_is;
  signals = on.signals;
  at = on.at;
  sent = on.sent;
  left = λ gone. ended_as job starts m t (on.left gone);
}

in_as : (job : Job) (starts : List ℕ) (m : Moment) (t k p n : ℕ) → OnInput job m t k p n
    → OnInput (with_starts starts job) m t k p n
in_as job starts m t k p n on = record {
  start = on.start;
  start_is = on.start_is;
  waits = on.waits;
  at = on.at;
  taken = on.taken;
  left = λ gone. ended_as job starts m t (on.left gone);
}

put_as : (job : Job) (starts : List ℕ) (m : Moment) (t j p : ℕ) (o : Option ℕ)
    → PutOn job m t j p o → PutOn (with_starts starts job) m t j p o
put_as job starts m t j p None on = on
put_as job starts m t j p (Some n) on = out_as job starts m t j p n on

taken_as : (job : Job) (starts : List ℕ) (m : Moment) (t k p : ℕ) (o : Option ℕ)
    → TakenOn job m t k p o → TakenOn (with_starts starts job) m t k p o
taken_as job starts m t k p None on = on
taken_as job starts m t k p (Some n) on = in_as job starts m t k p n on

on_as : (job : Job) (starts : List ℕ) (m : Moment) (t p : ℕ) (o : Option ℕ)
    → OnPhaser job m t p o → OnPhaser (with_starts starts job) m t p o
on_as job starts m t p None on = on
on_as job starts m t p (Some j) on = put_as job starts m t j p (m.number p t) on

pub task_as : (job : Job) (starts : List ℕ) (m : Moment) (t : ℕ) → TaskRan job m t
    → TaskRan (with_starts starts job) m t
task_as job starts m t r = record {
  puts = r.puts;
  exchanged = r.exchanged;
  takes = r.takes;
  samples = r.samples;
  cut = r.cut;
  lines = r.lines;
  outputs = λ p pp. on_as job starts m t p (index_in (signalled_by (task_at job.graph t)) p)
      (r.outputs p pp);
  inputs = λ k lt. taken_as job starts m t k (input_at (task_at job.graph t) k)
      (m.number (input_at (task_at job.graph t) k) t) (r.inputs k lt);
  joined = r.joined;
  children = r.children;
}

pub run_as : (job : Job) (starts : List ℕ) (m : Moment) → HasRun job m
    → HasRun (with_starts starts job) m
run_as job starts m ran = record {
  phasers = λ p pp. phaser_as job starts m p (ran.phasers p pp);
  tasks = λ t there. task_as job starts m t (ran.tasks t there);
}

-- as far as its sinks that join now begin where they do at the moment
pub ready_as : (job : Job) (m : Moment) → IsReady job → IsReadyAt (started job m) m
ready_as job m ready = record {
  graph = ready.graph;
  apart = meetings_stay job (started job m).starts ready.graph ∙ ready.apart;
  starts = λ t there.
      ap (λ n. if (task_at job.graph t).joins_now then n else 0)
      (get_or-map-range_with_len m.offset 0 (length job.graph.tasks) t t 0 there (omega arith));
}

pub run_started : (job : Job) (m : Moment) → HasRun job m → HasRun (started job m) m
run_started job m ran = run_as job (started job m).starts m ran
