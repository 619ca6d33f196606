-- What a task that stands somewhere knows stays where the samples of other tasks are others.
use Rattle.std.proofs.Common.{◌≡◌, ℕ, ℤ, ◌<◌, true, List, Option, Some, None, length, refl, sym, ap, subst, ◌∙◌, inr}
use mathlib.Core.List.{IsPrefix}
use Rattle.phase_history.specs.Histories.{has_dropped}
use Rattle.graph_base.specs.Graphs.{task_at}
use Rattle.graph_base.specs.TaskLines.{IsGraph}
use Rattle.graph_runs.proofs.OnLines.{on_phaser}
use Rattle.stream_lists.specs.Jobs.{index_in, Job, samples_at, with_samples}
use Rattle.stream_lists.specs.Spans.{signalled_by}
use Rattle.stream_lists.specs.Lists.{output_list}
use Rattle.graph_runs.specs.Moments.{Moment, TaskRan, HasEnded, HasSamples, MayStop, OnOutput, OnInput, OnPhaser, PutOn, TakenOn, input_at, made_now, taken_now}
use Rattle.graph_runs.specs.TaskEnds.{TaskEnd, IsChildOf, HasGiven, HasOwnCalls, HasNumbers}
use Rattle.graph_runs.specs.Stops.{HasStoppedAt}

made_fed : (job : Job) (m : Moment) (samples : List (List ℤ)) (t j : ℕ)
    → (samples_at (with_samples samples job) t ≡ samples_at job t)
    → made_now (with_samples samples job) m t j ≡ made_now job m t j
made_fed job m samples t j same =
    let task = task_at job.graph t in
    ap (λ l. output_list l (taken_now m task t) task (m.begun t) j) same

stop_fed : (job : Job) (m : Moment) (samples : List (List ℤ)) (t : ℕ)
    → (samples_at (with_samples samples job) t ≡ samples_at job t)
    → MayStop m (task_at job.graph t) t (length (samples_at job t))
    → MayStop m (task_at job.graph t) t (length (samples_at (with_samples samples job) t))
stop_fed job m samples t same may =
    subst (λ l. MayStop m (task_at job.graph t) t (length l)) (sym same) may

ended_fed : (job : Job) (m : Moment) (samples : List (List ℤ)) (t p n : ℕ)
    → (samples_at (with_samples samples job) t ≡ samples_at job t)
    → m.number p t ≡ Some n → has_dropped (m.history p) n ≡ true → p < length job.graph.phasers
    → HasEnded job m t → HasEnded (with_samples samples job) m t
ended_fed job m samples t p n may is gone pp e = record {
  all_put = λ j lt. e.all_put j lt ∙ sym (made_fed job m samples t j may);
  may_end = stop_fed job m samples t may e.may_end;
}

out_fed : (job : Job) (m : Moment) (samples : List (List ℤ)) (t j p n : ℕ)
    → (samples_at (with_samples samples job) t ≡ samples_at job t)
    → m.number p t ≡ Some n → p < length job.graph.phasers → OnOutput job m t j p n → OnOutput (with_samples samples job) m t j p n
out_fed job m samples t j p n may is pp on = record {
  start = on.start;
  start_is = on.start_is;
  signals = on.signals;
  at = on.at;
  sent = on.sent;
  left = λ gone. ended_fed job m samples t p n may is gone pp (on.left gone);
}

in_fed : (job : Job) (m : Moment) (samples : List (List ℤ)) (t k p n : ℕ)
    → (samples_at (with_samples samples job) t ≡ samples_at job t)
    → m.number p t ≡ Some n → p < length job.graph.phasers → OnInput job m t k p n → OnInput (with_samples samples job) m t k p n
in_fed job m samples t k p n may is pp on = record {
  start = on.start;
  start_is = on.start_is;
  waits = on.waits;
  at = on.at;
  taken = on.taken;
  left = λ gone. ended_fed job m samples t p n may is gone pp (on.left gone);
}

put_fed : (job : Job) (m : Moment) (samples : List (List ℤ)) (t j p : ℕ) (o : Option ℕ)
    → (samples_at (with_samples samples job) t ≡ samples_at job t)
    → m.number p t ≡ o → p < length job.graph.phasers → PutOn job m t j p o → PutOn (with_samples samples job) m t j p o
put_fed job m samples t j p None may is pp on = on
put_fed job m samples t j p (Some n) may is pp on = out_fed job m samples t j p n may is pp on

taken_fed : (job : Job) (m : Moment) (samples : List (List ℤ)) (t k p : ℕ) (o : Option ℕ)
    → (samples_at (with_samples samples job) t ≡ samples_at job t)
    → m.number p t ≡ o → p < length job.graph.phasers → TakenOn job m t k p o → TakenOn (with_samples samples job) m t k p o
taken_fed job m samples t k p None may is pp on = on
taken_fed job m samples t k p (Some n) may is pp on = in_fed job m samples t k p n may is pp on

on_fed : (job : Job) (m : Moment) (samples : List (List ℤ)) (t p : ℕ) (o : Option ℕ)
    → (samples_at (with_samples samples job) t ≡ samples_at job t)
    → p < length job.graph.phasers → OnPhaser job m t p o → OnPhaser (with_samples samples job) m t p o
on_fed job m samples t p None may pp on = on
on_fed job m samples t p (Some j) may pp on =
    put_fed job m samples t j p (m.number p t) may refl pp on

pub task_fed : (job : Job) (m : Moment) (samples : List (List ℤ)) (t : ℕ)
    → IsGraph job.graph → t < length job.graph.tasks
    → (samples_at (with_samples samples job) t ≡ samples_at job t)
    → TaskRan job m t → TaskRan (with_samples samples job) m t
task_fed job m samples t is there may r = record {
  puts = λ j lt. subst (IsPrefix (m.put t j)) (sym (made_fed job m samples t j may)) (r.puts j lt);
  exchanged = r.exchanged;
  takes = r.takes;
  samples = subst (λ l. HasSamples (task_at job.graph t).kind (m.begun t) (length l)) (sym may) r.samples;
  cut = r.cut;
  lines = r.lines;
  outputs = λ p pp. on_fed job m samples t p (index_in (signalled_by (task_at job.graph t)) p)
      may pp (r.outputs p pp);
  inputs = λ k lt. taken_fed job m samples t k (input_at (task_at job.graph t) k)
      (m.number (input_at (task_at job.graph t) k) t) may refl (input_within k lt) (r.inputs k lt);
  joined = r.joined;
  children = r.children;
}
  where
    input_within : (k : ℕ) → k < length (task_at job.graph t).inputs
        → input_at (task_at job.graph t) k < length job.graph.phasers
    input_within k lt = on_phaser job t (input_at (task_at job.graph t) k) is there (inr (k, lt, refl))

child_fed : (job : Job) (samples : List (List ℤ)) (c t : ℕ) → IsChildOf (with_samples samples job) c t
    → IsChildOf job c t
child_fed job samples c t is = record {
  there = is.there;
  parent = is.parent;
  has = is.has;
  by = is.by;
}

given_fed : (job : Job) (m : Moment) (samples : List (List ℤ)) (t p a : ℕ) → HasGiven job m t p a
    → HasGiven (with_samples samples job) m t p a
given_fed job m samples t p a g = record {
  child = g.child;
  is_child = record {
    there = g.is_child.there;
    parent = g.is_child.parent;
    has = g.is_child.has;
    by = g.is_child.by;
  };
  numbered = g.numbered;
}

calls_fed : (job : Job) (m : Moment) (samples : List (List ℤ)) (t : ℕ) → HasOwnCalls job m t
    → HasOwnCalls (with_samples samples job) m t
calls_fed job m samples t o = record {
  offset = o.offset;
  above = o.above;
  parent = o.parent;
  named = o.named;
  met_none = o.met_none;
  children = λ p n a at given. given_fed job m samples t p a (o.children p n a at given);
}

numbers_fed : (job : Job) (m : Moment) (samples : List (List ℤ)) (c : ℕ) (numbers : List ℕ)
    → HasNumbers job m c numbers → HasNumbers (with_samples samples job) m c numbers
numbers_fed job m samples c numbers h = record {
  few = h.few;
  numbered = h.numbered;
  lines = h.lines;
}

-- where its own samples are the same
pub stands_fed : (job : Job) (m : Moment) (samples : List (List ℤ)) (end : TaskEnd)
    → IsGraph job.graph → end.task < length job.graph.tasks
    → samples_at (with_samples samples job) end.task ≡ samples_at job end.task
    → HasStoppedAt job m end → HasStoppedAt (with_samples samples job) m end
stands_fed job m samples end is there same s = record {
  part = record {
    ran = task_fed job m samples end.task is there same s.part.ran;
    legal = s.part.legal;
  };
  own = calls_fed job m samples end.task s.own;
  begun = s.begun;
  start = s.start;
  numbered = s.numbered;
  whole = s.whole;
  seen = s.seen;
  lines = s.lines;
  given = λ c child. numbers_fed job m samples c (end.given c)
      (s.given c (child_fed job samples c end.task child));
}
