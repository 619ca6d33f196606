-- What a moment has of a task stays under others' events.
use Rattle.std.proofs.Common.{◌≡◌, ℕ, ◌+◌, ◌<◌, ◌≤◌, [], ◌∷◌, Option, Some, None, length, map, refl, sym, ap, subst, ◌∙◌, arith, inl, inr}
use mathlib.Core.List.{IsPrefix}
use Rattle.std.proofs.lemmas.List.FromFn.{length-map-range_with_len}
use Rattle.phase_base.specs.declared.entry.Entry.{Entry}
use Rattle.phase_history.specs.Histories.{History, done_of, has_dropped, start_of, phases_signalled}
use Rattle.phase_history.specs.Phases.{received_by, stream_of, value_of_phase}
use Rattle.phase_history.specs.Others.{OthersCame}
use Rattle.phase_history.specs.Sent.{sent_by, IsSilent}
use Rattle.phase_history.proofs.OthersEvents.{sent_by-others, has_dropped-others, received_by-others, phases_signalled-others}
use Rattle.phase_history.proofs.Used.{start_of-longer}
use Rattle.phase_history.proofs.Streams.{stream_closed, signallers_closed}
use Rattle.graph_base.specs.declared.line.Parent.{Parent}
use Rattle.graph_base.specs.Graphs.{task_at}
use Rattle.graph_base.specs.TaskLines.{IsGraph}
use Rattle.stream_lists.specs.Jobs.{Job, samples_at, index_in}
use Rattle.stream_lists.specs.Spans.{signalled_by}
use Rattle.stream_lists.specs.Lists.{number, output_list}
use Rattle.stream_lists.proofs.Growing.{map-same}
use Rattle.graph_runs.proofs.OwnEvents.{begins}
use Rattle.graph_runs.specs.Moments.{one, Moment, BeginsBy, input_at, taken_now, made_now, limits_at, value_at, IsRegistered, TaskRan, HasEnded, RanOut, first_input, MayStop, at_until, no_sample, no_input, OnOutput, OnInput, OnPhaser, PutOn, TakenOn, SilentOn, OnLine, HasNotPassed, Joined, AtMost, HasTaken, HasSamples, HasExchanged}
use Rattle.graph_runs.specs.Moves.{SameTask, HasGrown, PartStays, OthersMoved}
use Rattle.graph_runs.proofs.OnLines.{on_phaser}
use Rattle.graph_runs.proofs.Tasks.{first_looks}
use Rattle.graph_runs.proofs.Founding.{in_one}

-- ---- the histories of others

-- others' events leave it
pub part_came : (n : ℕ) (old new : History) → OthersCame (n ∷ []) old new → PartStays n old new
part_came n old new came = record {
  sent = ap (λ h. sent_by h n) came.is ∙ sent_by-others came.later old n (came.others n (in_one n));
  dropped =
      ap (λ h. has_dropped h n) came.is
      ∙ has_dropped-others came.later old n (came.others n (in_one n));
  signalled =
      ap (λ h. phases_signalled h n) came.is
      ∙ phases_signalled-others came.later old n (came.others n (in_one n));
  received =
      λ value. ap (λ h. received_by value h n) came.is
      ∙ received_by-others value came.later old n (came.others n (in_one n));
}

pub silent_stays : (n : ℕ) (old new : History) (start : Entry) → PartStays n old new
    → start_of old n ≡ Some start → start_of new n ≡ Some start → IsSilent old n → IsSilent new n
silent_stays n old new start part is stays silent = record {
  nothing = part.signalled ∙ silent.nothing;
  from_0 = λ other found. silent.from_0 other (is ∙ (sym stays ∙ found));
}

-- ---- the task's lists

pub made_same : (job : Job) (before after : Moment) (t j : ℕ) → SameTask before after t
    → made_now job after t j ≡ made_now job before t j
made_same job before after t j same =
    let task = task_at job.graph t in
    let taken : taken_now after task t ≡ taken_now before task t =
    map-same (after.taken t) (before.taken t) 0 (length task.inputs) (λ k lt. same.taken k) in
    ap (λ l. output_list (samples_at job t) l task (after.begun t) j) taken
    ∙ ap (λ b. output_list (samples_at job t) (taken_now before task t) task b j) same.begun

-- ---- that it has ended

pub ran_out_later : (job : Job) (before after : Moment) (t k : ℕ) → HasGrown job before after t
    → OnLine (task_at job.graph t) (input_at (task_at job.graph t) k)
    → SameTask before after t → RanOut before (task_at job.graph t) t k
    → RanOut after (task_at job.graph t) t k
ran_out_later job before after t k grown on same out =
    let x = input_at (task_at job.graph t) k in
    let old = before.history x in
    let new = after.history x in
    let value = value_at job x in
    let stream : stream_of value new ≡ stream_of value old =
    stream_closed value (limits_at job x) old new out.0 (grown.was x on) (grown.legal x on)
    (grown.beginning x on) in
    let a : length (stream_of value new) ≡ done_of new =
    length-map-range_with_len (value_of_phase value new) 0 (done_of new) in
    let b : length (stream_of value old) ≡ done_of old =
    length-map-range_with_len (value_of_phase value old) 0 (done_of old) in (
      signallers_closed (limits_at job x) old new out.0 (grown.was x on) (grown.legal x on)
          (grown.beginning x on),
      omega (arith, ap length stream, out.1, same.offset, ap length (same.taken k)),
    )

pub may_end_later : (job : Job) (before after : Moment) (t : ℕ) → IsGraph job.graph
    → t < length job.graph.tasks → HasGrown job before after t
    → SameTask before after t → MayStop before (task_at job.graph t) t (length (samples_at job t))
    → MayStop after (task_at job.graph t) t (length (samples_at job t))
may_end_later job before after t is there grown same (at_until e) =
    at_until (e ∙ ap (λ b. Some b) (sym same.begun))
may_end_later job before after t is there grown same (no_sample source few) =
    no_sample source (let b : after.begun t ≡ before.begun t = same.begun in omega arith)
may_end_later job before after t is there grown same (no_input not out) =
    let task = task_at job.graph t in
    let k = first_input task (before.begun t) in
    let lt : k < length task.inputs =
    (first_looks task (before.begun t) (is.tasks t there).ends not).0 in
    let on : OnLine task (input_at task k) = inr (k, lt, refl) in
    no_input not (rw same.begun (ran_out_later job before after t k grown on same out))

pub ended_later : (job : Job) (before after : Moment) (t : ℕ) → IsGraph job.graph
    → t < length job.graph.tasks → HasGrown job before after t
    → SameTask before after t → HasEnded job before t → HasEnded job after t
ended_later job before after t is there grown same ended = record {
  all_put = λ j lt. same.put j ∙ ended.all_put j lt ∙ sym (made_same job before after t j same);
  may_end = may_end_later job before after t is there grown same ended.may_end;
}

-- ---- the whole task

-- what a moment has of a task's lists alone
pub record ListsRan (job : Job) (m : Moment) (t : ℕ) : Type 0 where
  pub puts : (j : ℕ) → j < length (signalled_by (task_at job.graph t))
      → IsPrefix (m.put t j) (made_now job m t j)
  pub exchanged : (j : ℕ)
      → HasExchanged (task_at job.graph t).kind j (length (m.put t j)) (length (m.taken t 1))
  pub takes : (k : ℕ) → k < length (task_at job.graph t).inputs
      → HasTaken (task_at job.graph t) (m.begun t) k (length (m.taken t k))
  pub samples : HasSamples (task_at job.graph t).kind (m.begun t) (length (samples_at job t))
  pub cut : AtMost (m.begun t) (task_at job.graph t).until

-- it stays where they do
pub lists_later : (job : Job) (before after : Moment) (t : ℕ) → SameTask before after t
    → TaskRan job before t → ListsRan job after t
lists_later job before after t same ran = record {
  puts = λ j lt.
      (rw (same.put j)
      (rw (made_same job before after t j same) (ran.puts j lt)));
  exchanged = λ j.
      (rw (same.put j) (rw (same.taken 1) (ran.exchanged j)));
  takes = λ k below.
      (rw (same.taken k) (rw same.begun (ran.takes k below)));
  samples =
      (rw same.begun ran.samples);
  cut = (rw same.begun ran.cut);
}

pub task_later : (job : Job) (before after : Moment) (t : ℕ) → IsGraph job.graph
    → t < length job.graph.tasks → HasGrown job before after t
    → OthersMoved job before after t → TaskRan job before t → TaskRan job after t
task_later job before after t is there grown o ran = record {
  puts = lists.puts;
  exchanged = lists.exchanged;
  takes = lists.takes;
  samples = lists.samples;
  cut = lists.cut;
  outputs =
      λ p pp. outputs p pp (index_in (signalled_by (task_at job.graph t)) p) (before.number p t)
      refl (ran.outputs p pp);
  inputs = λ k lt.
      inputs k lt (before.number (input_at (task_at job.graph t) k) t) refl (ran.inputs k lt);
  children = λ c p n u there_c e same at none on. children c p n u there_c e same at none on;
  lines = λ p n at. ran.lines p n (sym (o.number p) ∙ at);
  joined = λ p n at.
      joined ((task_at job.graph t).parent) refl (ran.joined p n (sym (o.number p) ∙ at));
}
  where
    lists : ListsRan job after t
    lists = lists_later job before after t o.same ran

    ended : HasEnded job before t → HasEnded job after t
    ended e = ended_later job before after t is there grown o.same e

    start_on : (p n : ℕ) → before.number p t ≡ Some n → OnLine (task_at job.graph t) p
        → (start : Entry) × (start_of (before.history p) n ≡ Some start)
    start_on p n at (inl out) =
        let pp : p < length job.graph.phasers = on_phaser job t p is there (inl out) in
        let N : Option ℕ → Type 0 = λ o. PutOn job before t out.0 p o in
        let on : OnOutput job before t out.0 p n = subst N at (rw out.1 at (ran.outputs p pp)) in
        (on.start, on.start_is)
    start_on p n at (inr into) =
        let N : Option ℕ → Type 0 = λ o. TakenOn job before t into.0 p o in
        let on : OnInput job before t into.0 p n =
        subst N at (rw into.2 at (ran.inputs into.0 into.1)) in
        (on.start, on.start_is)

    outputs : (p : ℕ) → p < length job.graph.phasers → (place x : Option ℕ) → before.number p t ≡ x
        → OnPhaser job before t p place → OnPhaser job after t p place
    outputs p pp None None at on =
        rw (o.number p ∙ at) tt
    outputs p pp None (Some n) at on =
        let B : Option ℕ → Type 0 = λ x. SilentOn before p x in
        let u = start_on p n at (ran.lines p n at) in
        rw (o.number p ∙ at)
        (silent_stays n (before.history p) (after.history p) u.0 (o.part p n at) u.1
        (start_of-longer (limits_at job p) (before.history p) (after.history p) n u.0
        (grown.legal p (ran.lines p n at)) (grown.beginning p (ran.lines p n at)) u.1)
        (subst B at on))
    outputs p pp (Some j) None at on =
        let B : Option ℕ → Type 0 = λ x. PutOn job before t j p x in
        rw (o.number p ∙ at) (subst B at on)
    outputs p pp (Some j) (Some n) at on =
        let B : Option ℕ → Type 0 = λ x. PutOn job before t j p x in
        let b : OnOutput job before t j p n = subst B at on in
        let part = o.part p n at in
        let on_line = ran.lines p n at in
        rw (o.number p ∙ at) (record {
          start = b.start;
          start_is =
              start_of-longer (limits_at job p) (before.history p) (after.history p) n b.start
              (grown.legal p on_line) (grown.beginning p on_line) b.start_is;
          signals = b.signals;
          at = b.at ∙ sym o.same.offset;
          sent = part.sent ∙ b.sent ∙ ap (λ l. map one l) (sym (o.same.put j));
          left = λ gone. ended (b.left (sym (part.dropped) ∙ gone));
        })

    inputs : (k : ℕ) → k < length (task_at job.graph t).inputs → (x : Option ℕ)
        → before.number (input_at (task_at job.graph t) k) t ≡ x
        → TakenOn job before t k (input_at (task_at job.graph t) k)
        (before.number (input_at (task_at job.graph t) k) t)
        → TakenOn job after t k (input_at (task_at job.graph t) k)
        (after.number (input_at (task_at job.graph t) k) t)
    inputs k lt None at on =
        let p = input_at (task_at job.graph t) k in
        let B : Option ℕ → Type 0 = λ x. TakenOn job before t k p x in
        let b = subst B at on in
        rw (o.number p ∙ at) (o.same.taken k ∙ b.0, b.1)
    inputs k lt (Some n) at on =
        let p = input_at (task_at job.graph t) k in
        let B : Option ℕ → Type 0 = λ x. TakenOn job before t k p x in
        let b : OnInput job before t k p n = subst B at on in
        let part = o.part p n at in
        let on_line = ran.lines p n at in
        rw (o.number p ∙ at) (record {
          start = b.start;
          start_is =
              start_of-longer (limits_at job p) (before.history p) (after.history p) n b.start
              (grown.legal p on_line) (grown.beginning p on_line) b.start_is;
          waits = b.waits;
          at = b.at ∙ sym o.same.offset;
          taken = o.same.taken k ∙ b.taken
              ∙ ap (λ l. map number l) (sym (part.received (value_at job p)));
          left = λ gone. ended (b.left (sym (part.dropped) ∙ gone));
        })

    children : (c p n : ℕ) (u : Parent) → c < length job.graph.tasks
        → (task_at job.graph c).parent ≡ Some u → u.task ≡ t
        → after.number p t ≡ Some n → after.number p c ≡ None → OnLine (task_at job.graph c) p
        → HasNotPassed after p n u
    children c p n u there_c e same at none on =
        let w : HasNotPassed before p n u =
        ran.children c p n u there_c e same (sym (o.number p) ∙ at)
        (o.children c p u there_c e same none) on in
        let begun : after.begun u.task ≡ before.begun u.task =
        ap (λ x. after.begun x) same ∙ o.same.begun ∙ ap (λ x. before.begun x) (sym same) in
        let dropped : has_dropped (after.history p) n ≡ has_dropped (before.history p) n =
        (o.part p n (sym (o.number p) ∙ at)).dropped in
        let early : before.begun u.task ≤ u.at = w.early in
        record {
          early =
              omega arith;
          ended =
              λ gone. (omega (arith, w.ended (sym dropped ∙ gone)));
        }

    joined : (parent : Option Parent) → (task_at job.graph t).parent ≡ parent
        → Joined before t (task_at job.graph t).joins_now (task_at job.graph t).parent
        → Joined after t (task_at job.graph t).joins_now (task_at job.graph t).parent
    joined None e j =
        let b : before.offset t ≡ 0 = rw e at j in
        rw e (o.same.offset ∙ b)
    joined (Some u) e j =
        let b : BeginsBy (task_at job.graph t).joins_now (before.offset t)
        (before.offset u.task + u.at) × (u.at ≤ before.begun u.task)
        × IsRegistered before u.task = rw e at j in
        let up = o.parent u e in
        rw e (
          begins (task_at job.graph t).joins_now (after.offset t) (after.offset u.task + u.at)
              (before.offset t) (before.offset u.task + u.at) o.same.offset
              (ap (λ n. n + u.at) up.0) b.0,
          omega (arith, b.1, up.1),
          up.2 b.2,
        )
