-- What a moment has of a job it has of the job with other samples behind those that were signalled.
use Rattle.std.proofs.Common.{◌≡◌, ℕ, ℤ, ◌<◌, true, List, Option, Some, None, length, take, refl, sym, subst, ◌∙◌, inr}
use mathlib.Core.List.{IsPrefix}
use Rattle.phase_history.specs.Histories.{has_dropped}
use Rattle.graph_base.specs.Graphs.{Task, task_at}
use Rattle.graph_base.specs.declared.line.Kind.{Kind}
use Rattle.graph_base.specs.declared.line.Kind.TheVariants.{Source, Fir, Split, Decimate, Join, Peer, Sink}
use Rattle.graph_base.specs.TaskLines.{IsGraph}
use Rattle.graph_runs.proofs.OnLines.{on_phaser}
use Rattle.stream_lists.specs.Jobs.{index_in, Job, samples_at, with_samples}
use Rattle.stream_lists.specs.Spans.{signalled_by}
use Rattle.stream_lists.specs.Lists.{output_list}
use Rattle.graph_runs.specs.Moments.{Moment, HasRun, PhaserRan, TaskRan, HasEnded, HasSamples, MayStop, at_until, no_sample, no_input, OnOutput, OnInput, OnPhaser, PutOn, TakenOn, input_at, made_now, taken_now}
use Rattle.graph_runs.specs.Reached.{IsReachable}
use Rattle.graph_runs.specs.Feeds.{MayHaveRun, Continues}

-- the samples of a source alone are looked at, and of them its first steps
pub output_same : (xs ys : List ℤ) (taken : List (List ℤ)) (task : Task) (steps j : ℕ)
    → (task.kind ≡ Source → take steps xs ≡ take steps ys)
    → output_list xs taken task steps j ≡ output_list ys taken task steps j
output_same xs ys taken task steps j same = by_kind task.kind refl
  where
    by_kind : (kind : Kind) → task.kind ≡ kind
        → output_list xs taken task steps j ≡ output_list ys taken task steps j
    by_kind Source e = rw e (same e)
    by_kind Fir e = rw e refl
    by_kind Split e = rw e refl
    by_kind Decimate e = rw e refl
    by_kind Join e = rw e refl
    by_kind Peer e = rw e refl
    by_kind Sink e = rw e refl

pub made_fed : (job : Job) (m : Moment) (samples : List (List ℤ)) (t j : ℕ)
    → ((task_at job.graph t).kind ≡ Source → MayHaveRun job m samples t)
    → made_now (with_samples samples job) m t j ≡ made_now job m t j
made_fed job m samples t j may =
    let task = task_at job.graph t in
    output_same (samples_at (with_samples samples job) t) (samples_at job t)
    (taken_now m task t) task (m.begun t) j (λ e. (may e).same)

-- a task that has left a phaser might leave it
stop_fed : (job : Job) (m : Moment) (samples : List (List ℤ)) (t p n : ℕ)
    → ((task_at job.graph t).kind ≡ Source → MayHaveRun job m samples t)
    → m.number p t ≡ Some n → has_dropped (m.history p) n ≡ true → p < length job.graph.phasers
    → MayStop m (task_at job.graph t) t (length (samples_at job t))
    → MayStop m (task_at job.graph t) t (length (samples_at (with_samples samples job) t))
stop_fed job m samples t p n may is gone pp (at_until e) = at_until e
stop_fed job m samples t p n may is gone pp (no_sample source few) =
    (may source).ended p n pp is gone
stop_fed job m samples t p n may is gone pp (no_input not out) = no_input not out

ended_fed : (job : Job) (m : Moment) (samples : List (List ℤ)) (t p n : ℕ)
    → ((task_at job.graph t).kind ≡ Source → MayHaveRun job m samples t)
    → m.number p t ≡ Some n → has_dropped (m.history p) n ≡ true → p < length job.graph.phasers
    → HasEnded job m t → HasEnded (with_samples samples job) m t
ended_fed job m samples t p n may is gone pp e = record {
  all_put = λ j lt. e.all_put j lt ∙ sym (made_fed job m samples t j may);
  may_end = stop_fed job m samples t p n may is gone pp e.may_end;
}

out_fed : (job : Job) (m : Moment) (samples : List (List ℤ)) (t j p n : ℕ)
    → ((task_at job.graph t).kind ≡ Source → MayHaveRun job m samples t)
    → m.number p t ≡ Some n → p < length job.graph.phasers → OnOutput job m t j p n → OnOutput (with_samples samples job) m t j p n
out_fed job m samples t j p n may is pp on = record {
  start = on.start;
  start_is = on.start_is;
  signals = on.signals;
  at = on.at;
  sent = on.sent;
  left = λ gone. ended_fed job m samples t p n may is gone pp (on.left gone);
}

in_fed : (job : Job) (m : Moment) (samples : List (List ℤ)) (t k p n : ℕ)
    → ((task_at job.graph t).kind ≡ Source → MayHaveRun job m samples t)
    → m.number p t ≡ Some n → p < length job.graph.phasers → OnInput job m t k p n → OnInput (with_samples samples job) m t k p n
in_fed job m samples t k p n may is pp on = record {
  start = on.start;
  start_is = on.start_is;
  waits = on.waits;
  at = on.at;
  taken = on.taken;
  left = λ gone. ended_fed job m samples t p n may is gone pp (on.left gone);
}

put_fed : (job : Job) (m : Moment) (samples : List (List ℤ)) (t j p : ℕ) (o : Option ℕ)
    → ((task_at job.graph t).kind ≡ Source → MayHaveRun job m samples t)
    → m.number p t ≡ o → p < length job.graph.phasers → PutOn job m t j p o → PutOn (with_samples samples job) m t j p o
put_fed job m samples t j p None may is pp on = on
put_fed job m samples t j p (Some n) may is pp on = out_fed job m samples t j p n may is pp on

taken_fed : (job : Job) (m : Moment) (samples : List (List ℤ)) (t k p : ℕ) (o : Option ℕ)
    → ((task_at job.graph t).kind ≡ Source → MayHaveRun job m samples t)
    → m.number p t ≡ o → p < length job.graph.phasers → TakenOn job m t k p o → TakenOn (with_samples samples job) m t k p o
taken_fed job m samples t k p None may is pp on = on
taken_fed job m samples t k p (Some n) may is pp on = in_fed job m samples t k p n may is pp on

on_fed : (job : Job) (m : Moment) (samples : List (List ℤ)) (t p : ℕ) (o : Option ℕ)
    → ((task_at job.graph t).kind ≡ Source → MayHaveRun job m samples t)
    → p < length job.graph.phasers → OnPhaser job m t p o → OnPhaser (with_samples samples job) m t p o
on_fed job m samples t p None may pp on = on
on_fed job m samples t p (Some j) may pp on =
    put_fed job m samples t j p (m.number p t) may refl pp on

-- a source has begun no step without a sample
samples_fed : (job : Job) (m : Moment) (samples : List (List ℤ)) (t : ℕ) (kind : Kind)
    → (kind ≡ Source → MayHaveRun job m samples t)
    → HasSamples kind (m.begun t) (length (samples_at (with_samples samples job) t))
samples_fed job m samples t Source may = (may refl).enough
samples_fed job m samples t Fir may = tt
samples_fed job m samples t Split may = tt
samples_fed job m samples t Decimate may = tt
samples_fed job m samples t Join may = tt
samples_fed job m samples t Peer may = tt
samples_fed job m samples t Sink may = tt

task_fed : (job : Job) (m : Moment) (samples : List (List ℤ)) (t : ℕ)
    → IsGraph job.graph → t < length job.graph.tasks
    → ((task_at job.graph t).kind ≡ Source → MayHaveRun job m samples t)
    → TaskRan job m t → TaskRan (with_samples samples job) m t
task_fed job m samples t is there may r = record {
  puts = λ j lt. subst (IsPrefix (m.put t j)) (sym (made_fed job m samples t j may)) (r.puts j lt);
  exchanged = r.exchanged;
  takes = r.takes;
  samples = samples_fed job m samples t (task_at job.graph t).kind may;
  cut = r.cut;
  lines = r.lines;
  outputs = λ p pp. on_fed job m samples t p (index_in (signalled_by (task_at job.graph t)) p)
      may pp (r.outputs p pp);
  inputs = λ k lt. taken_fed job m samples t k (input_at (task_at job.graph t) k)
      (m.number (input_at (task_at job.graph t) k) t) may refl (input_within k lt) (r.inputs k lt);
  joined = r.joined;
  children = r.children;
}
  where
    input_within : (k : ℕ) → k < length (task_at job.graph t).inputs
        → input_at (task_at job.graph t) k < length job.graph.phasers
    input_within k lt = on_phaser job t (input_at (task_at job.graph t) k) is there (inr (k, lt, refl))

phaser_fed : (job : Job) (m : Moment) (samples : List (List ℤ)) (p : ℕ) → PhaserRan job m p
    → PhaserRan (with_samples samples job) m p
phaser_fed job m samples p r = record {
  legal = r.legal;
  names = r.names;
  distinct = r.distinct;
  used = r.used;
  strangers = r.strangers;
}

pub run_fed : (job : Job) (m : Moment) (samples : List (List ℤ)) → IsGraph job.graph → HasRun job m
    → Continues job m samples → HasRun (with_samples samples job) m
run_fed job m samples is ran goes = record {
  phasers = λ p pp. phaser_fed job m samples p (ran.phasers p pp);
  tasks = λ t tt. task_fed job m samples t is tt (goes t tt) (ran.tasks t tt);
}

pub reachable_fed : (job : Job) (m : Moment) (samples : List (List ℤ)) → IsGraph job.graph
    → IsReachable job m
    → Continues job m samples → IsReachable (with_samples samples job) m
reachable_fed job m samples is r goes = record {
  ran = run_fed job m samples is r.ran goes;
  modes = r.modes;
  only_tasks = r.only_tasks;
  members = r.members;
  to_come = record {
    offset = r.to_come.offset;
    nothing_begun = r.to_come.nothing_begun;
    nothing_put = r.to_come.nothing_put;
    nothing_taken = r.to_come.nothing_taken;
  };
}
