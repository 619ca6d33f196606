-- The moment of a run whose tasks have left is over, and so its sinks have taken the job's answer,
-- for the starts that came about.
use Rattle.std.proofs.Common.{◌≡◌, ℕ, ◌<◌, Bool, true, false, List, [], Option, Some, None, Ok, length, map, slice_get, refl, sym, ap, subst, ◌∙◌, arith, ◌⊎◌, inl, inr}
use Rattle.std.specs.Prelude.{unwrap_or, nat_lt}
use Rattle.std.specs.List.{range_with_len}
use Rattle.std.proofs.lemmas.Bool.{lt-ltb}
use Rattle.std.proofs.lemmas.Option.{same_Some, slice_get-get_or}
use Rattle.phase_history.specs.Histories.{History, has_dropped, HasNoSignaller}
use Rattle.phase_history.specs.Others.{IsUsed}
use Rattle.phase_history.proofs.Signallers.{quiet_from}
use Rattle.graph_base.specs.Graphs.{task_at}
use Rattle.graph_base.specs.TaskLines.{IsGraph}
use Rattle.stream_lists.specs.Jobs.{Job}
use Rattle.stream_lists.specs.Lists.{is_sink_at, start_in}
use Rattle.stream_lists.proofs.Starts.{lengths_stay}
use Rattle.stream_lists.proofs.Basics.{sink_kind}
use Rattle.graph_runs.proofs.Started.{ready_as, run_started}
use Rattle.graph_runs.proofs.StartsAtEnd.{start_of_others, start_registered, start_absent, start_in_time}
use Rattle.graph_runs.proofs.Whole.{stands_all}
use Rattle.graph_runs.specs.Moments.{Moment, started, IsOver, HasMetNone, limits_at, value_at}
use Rattle.graph_runs.specs.Settled.{IsReady}
use Rattle.graph_runs.proofs.Results.{map-filtered}
use Rattle.graph_runs.proofs.TooBigs.{answer_is}
use Rattle.graph_runs.proofs.Framed.{part_came}
use Rattle.graph_runs.specs.Nexts.{registrations_at}
use Rattle.graph_runs.specs.TaskPlaces.{registration_at}
use Rattle.graph_runs.specs.TaskEnds.{TaskEnd, HasLeftAt, FounderEnd}
use Rattle.graph_runs.specs.RunEnds.{Ends, IsRegisteredOn, HasWholeRun, IsRunEnd, HasAnswer, lines_in, start_in_end}
use Rattle.graph_runs.specs.Stops.{HasStoppedAt, HasRunSoFar, IsStop}
use Rattle.graph_runs.proofs.Joined.{Status, absent, came, number_by, offset_by, status, whole_has, whole_history, whole, IsNumbered, is_numbered, registered_there}
use Rattle.graph_runs.proofs.OnPhasers.{case_of, only_used, part_of}
use Rattle.graph_runs.proofs.Wholes.{part, has_run, sink_lines}

-- ---- a run's end is a stop whose tasks have left

-- what a task that has left has seen of a phaser on its line
saw_at : (job : Job) (m : Moment) (end : TaskEnd) → HasLeftAt job m end → (i : ℕ)
    → i < length (registrations_at job end.task)
    → slice_get end.seen i ≡ Some (m.history (registration_at job end.task i).phaser)
saw_at job m end is i lt =
    let long : length end.seen ≡ length (registrations_at job end.task) = is.long in
    slice_get-get_or end.seen i [] (omega arith) ∙ ap (λ h. Some h) (sym (is.seen i lt))

stands_of : (job : Job) (m : Moment) (end : TaskEnd) → HasLeftAt job m end → HasStoppedAt job m end
stands_of job m end is = record {
  part = is.part;
  own = is.own;
  begun = is.stands.begun ∙ is.begun;
  start = is.start;
  numbered = λ i lt. is.stands.numbered i lt ∙ ap (λ l. slice_get l i) is.numbers;
  whole = is.whole;
  seen = saw_at job m end is;
  lines = is.lines;
  given = is.given;
}

so_far : (job : Job) (ends : Ends) (p : ℕ) (founder : FounderEnd) (h : History)
    → HasWholeRun job ends p founder h → HasRunSoFar job ends p founder h
so_far job ends p founder h w = record {
  legal = w.legal;
  founds = w.founds.founded;
  founder_came = w.founder_came;
  tasks_came = w.tasks_came;
  not_founder = w.not_founder;
  distinct = w.distinct;
  gave = w.gave;
}

stop_of_end : (job : Job) (ends : Ends) → IsRunEnd job ends → IsStop job ends
stop_of_end job ends r = record {
  tasks = λ t end has. (let k = r.tasks t end has in
      (k.0, k.1, (k.2.0, stands_of job k.2.0 end k.2.1)));
  agree = record {
    phasers = λ p pp. (let w = r.phasers p pp in (w.0, w.1, so_far job ends p w.0 w.1 w.2));
    roots = r.roots;
    parents = r.parents;
    children = r.children;
  };
}

-- it has left each of them
left_at : (job : Job) (m : Moment) (end : TaskEnd) → HasLeftAt job m end → (i n : ℕ)
    → i < length (registrations_at job end.task) → slice_get end.numbers i ≡ Some n
    → has_dropped (m.history (registration_at job end.task i).phaser) n ≡ true
left_at job m end is i n lt number =
    let p = (registration_at job end.task i).phaser in
    let e : m.number p end.task ≡ Some n =
    is.stands.numbered i lt ∙ ap (λ l. slice_get l i) is.numbers ∙ number in
    let same : length is.at.numbers ≡ length end.numbers = ap length is.numbers in
    let whole : length end.numbers ≡ length (registrations_at job end.task) = is.whole in
    let all : is.at.left ≡ length end.numbers = is.left in
    let below : i < is.at.left = omega arith in
    let at : has_dropped (m.history p) (unwrap_or (m.number p end.task) 0) ≡ nat_lt i is.at.left =
    is.stands.leaves i (omega arith) in
    sym (ap (λ o. has_dropped (m.history p) (unwrap_or o 0)) e) ∙ at ∙ lt-ltb i is.at.left below

left_by : (job : Job) (ends : Ends) → IsRunEnd job ends → (t i p n : ℕ) (seen : History)
    → IsRegisteredOn job ends t i p n seen → has_dropped seen n ≡ true
left_by job ends r t i p n seen on =
    let k = r.tasks t on.end on.came in
    let lt : i < length (registrations_at job on.end.task) =
    subst (λ x. i < length (registrations_at job x)) (sym k.0) on.few in
    let h : History = k.2.0.history (registration_at job on.end.task i).phaser in
    let here : seen ≡ h = same_Some seen h (sym on.saw ∙ saw_at job k.2.0 on.end k.2.1 i lt) in
    ap (λ x. has_dropped x n) here ∙ left_at job k.2.0 on.end k.2.1 i n lt on.number

module _ (job : Job) (ends : Ends) (is : IsGraph job.graph) (r : IsRunEnd job ends) where
  abbrev s : IsStop job ends
  s = stop_of_end job ends r

  abbrev m : Moment
  m = whole job ends is s

  left : (t p n : ℕ) → (g : IsNumbered job ends is s t p n)
      → has_dropped (g.m.history p) n ≡ true
  left t p n g = left_by job ends r t g.i p n (g.m.history p) g.on

  has_whole_end : (p : ℕ) → p < length job.graph.phasers
      → (founder : FounderEnd) × HasWholeRun job ends p founder (whole_history job ends is s p)
  unfolding stop_of_end
  has_whole_end = whole_has job ends is s (λ p founder h. HasWholeRun job ends p founder h)
      (λ p here. ((r.phasers p here).0, (r.phasers p here).2))

  -- each that was used has dropped
  dropped : (p : ℕ) (founder : FounderEnd) → (w : HasWholeRun job ends p founder (m.history p))
      → (n : ℕ) → IsUsed (m.history p) n → has_dropped (m.history p) n ≡ true
  dropped p founder w n used = by (case_of job ends is s p founder now n (only_used job ends is s p founder now n used))
    where
      now : HasRunSoFar job ends p founder (m.history p)
      now = so_far job ends p founder (m.history p) w

      by : (n ≡ founder.number) ⊎ ((t : ℕ) × IsNumbered job ends is s t p n)
          → has_dropped (m.history p) n ≡ true
      by (inl same) =
          let stays = part_came founder.number founder.seen (m.history p) w.founder_came in
          ap (λ x. has_dropped (m.history p) x) same ∙ stays.dropped ∙ w.founds.left
      by (inr numbered) =
          let g : IsNumbered job ends is s numbered.0 p n = numbered.1 in
          (part_of job ends is s p founder now numbered.0 n g).dropped ∙ left numbered.0 p n g

  quiet : (p : ℕ) (founder : FounderEnd) → HasWholeRun job ends p founder (m.history p)
      → HasNoSignaller (m.history p)
  quiet p founder w = quiet_from (limits_at job p) (m.history p) w.legal (dropped p founder w)

  is_over : IsOver job m
  is_over = record {
    quiet = λ p pp. (let w = has_whole_end p pp in quiet p w.0 w.1);
    gone = λ p t n there at.
        (let g = is_numbered job ends is s t p n at in
        (part job ends is s t p n g).dropped ∙ left t p n g);
  }

  met_none : HasMetNone job m
  met_none p t n pp there at =
      let g = is_numbered job ends is s t p n at in
      rw ((part job ends is s t p n g).received (value_at job p)) (g.own.own.met_none p n g.numbered)

  -- ---- the answer

  -- the starts of the tasks that came, and of the others where the opening has them
  abbrev starts_at_end : List ℕ
  starts_at_end = map m.offset (range_with_len 0 (length job.graph.tasks))

  -- a task's start at the end is the one that its span has with these starts
  begins_at : IsReady job → (t : ℕ) → t < length job.graph.tasks
      → start_in_end (task_at job.graph t).joins_now (slice_get ends t) ≡ start_in (started job m) t
  begins_at ready t there = by (task_at job.graph t).joins_now refl
    where
      by : (b : Bool) → (task_at job.graph t).joins_now ≡ b
          → start_in_end (task_at job.graph t).joins_now (slice_get ends t)
          ≡ start_in (started job m) t
      by false stays =
          ap (λ b. start_in_end b (slice_get ends t)) stays
          ∙ sym (start_of_others (started job m) t stays)
      by true now =
          ap (λ b. start_in_end b (slice_get ends t)) now ∙ of (status job ends is s t) refl
        where
          of : (x : Status job ends t) → status job ends is s t ≡ x
              → start_in_end true (slice_get ends t) ≡ start_in (started job m) t
          of (came end has o own here) e =
              ap (start_in_end true) has
              ∙ ap (λ n. Some n) (sym (ap (λ x. offset_by x) e ∙ own.start now))
              ∙ sym (start_registered (started job m) m t now
              (stands_all (started job m) m (ready_as job m ready) (run_started job m (has_run job ends is s)) t
              there (registered_there job ends is s t end has)))
          of (absent never) e =
              none (slice_get ends t) refl
              ∙ sym (start_absent (started job m) m t (ready_as job m ready)
              (run_started job m (has_run job ends is s))
              (record { quiet = is_over.quiet; gone = is_over.gone }) there now
              (λ p. ap (λ x. number_by x p) e))
            where
              none : (o : Option (Option TaskEnd)) → slice_get ends t ≡ o
                  → start_in_end true (slice_get ends t) ≡ None
              none None f = ap (start_in_end true) f
              none (Some None) f = ap (start_in_end true) f
              none (Some (Some end)) f = absurd (never end f)

-- the answer of the job, with these starts, is what the sinks have taken
pub answer_at_end : (job : Job) (ends : Ends) → IsReady job → IsRunEnd job ends
    → HasAnswer job ends
answer_at_end job ends ready r =
    let s = stop_of_end job ends r in
    let m = whole job ends ready.graph s in
    let over = is_over job ends ready.graph r in
    let ready_now = ready_as job m ready in
    let ran_now = run_started job m (has_run job ends ready.graph s) in
    let over_now : IsOver (started job m) m = record { quiet = over.quiet; gone = over.gone } in
    record {
      starts = starts_at_end job ends ready.graph r;
      answer = answer_is (started job m) m ready_now ran_now over_now
          (met_none job ends ready.graph r)
          ∙ ap (λ lines. Ok lines) (map-filtered (λ t. (t, m.taken t 0))
          (λ t. (t, lines_in (slice_get ends t)))
          (is_sink_at job) 0 (length job.graph.tasks)
          (λ t lt e. (let there : t < length job.graph.tasks = omega arith in
          ap (λ values. (t, values))
          (sink_lines job ends ready.graph s t there
          (sink_kind (task_at job.graph t).kind e)))));
      began = begins_at job ends ready.graph r ready;
      in_time = λ t start there e.
          (rw (lengths_stay job (starts_at_end job ends ready.graph r) ready.graph) at (start_in_time (started job m) m t start ready_now ran_now over_now there e));
    }
