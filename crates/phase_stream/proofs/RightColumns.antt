-- What stands in a column is right in every run whose samples go on so.
use Rattle.std.proofs.Common.{◌≡◌, ◌⊎◌, inl, inr, ◌<◌, ◌≤◌, ◌+◌, ◌-◌, ◌++◌, cond, ℕ, ℤ, pos, zero, suc, Bool, true, false, List, [], ◌∷◌, Option, Some, None, length, get_or, take, refl, sym, ap, subst, ◌∙◌, arith}
use Rattle.std.proofs.lemmas.Bool.{lt-ltb, ltb-false}
use Rattle.std.proofs.lemmas.List.{get_or_append_left, length-append}
use Rattle.std.proofs.lemmas.Option.{same_Some, slice_get-get_or, slice_get_past}
use Rattle.std.specs.Prelude.{drop, nat_lt, slice_get}
use Rattle.std.specs.Option.{option_map}
use mathlib.Core.List.{IsPrefix}
use Rattle.graph_commands.specs.ColumnTexts.{end_from, value_from}
use Rattle.stream_job.specs.SinkLines.{sink_begins_at}
use Rattle.stream_job.specs.Streams.{IsStreamAt, StreamState, ended_at}
use Rattle.graph_base.specs.Graphs.{task_at}
use Rattle.graph_base.specs.TaskLines.{IsGraph}
use Rattle.graph_runs.specs.Feeds.{IsFed}
use Rattle.graph_runs.specs.Moments.{HasRun, Moment, input_at, started}
use Rattle.graph_runs.specs.Settled.{IsReady, Stands}
use Rattle.stream_lists.specs.Jobs.{Job, samples_at, start_at, with_samples}
use Rattle.stream_lists.specs.Lists.{is_sink_at, numbers_of}
use Rattle.stream_lists.specs.Spans.{lengths_of, nowhere, offset_of, span_at, span_in, spans_of, takes_from}
use Rattle.stream_lists.specs.declared.span.Span.{Span}
use Rattle.graph_runs.proofs.FedFeeds.{feed_continues}
use Rattle.graph_runs.proofs.FedRuns.{run_fed}
use Rattle.graph_runs.proofs.Started.{ready_as, run_started}
use Rattle.graph_runs.proofs.Whole.{stands_all}
use Rattle.stream_lists.proofs.SpansAbove.{spans_all}
use Rattle.stream_lists.proofs.Basics.{sink_kind}
use Rattle.phase_stream.specs.Columns.{ColumnBeginsAt, ColumnStands, least_start}
use Rattle.phase_stream.specs.Sessions.{sink_list}
use Rattle.phase_stream.specs.declared.column.Column.{Column}
use Rattle.phase_stream.proofs.LeastStarts.{begins_from}

-- ---- values from a start

pub none_from : (start n : ℕ) → value_from start [] n ≡ None
none_from start n = by (nat_lt n start) refl
  where
    by : (b : Bool) → nat_lt n start ≡ b → cond b None (slice_get {X = ℤ} [] (n - start)) ≡ None
    by true e = refl
    by false e = slice_get_past [] (n - start) (omega arith)

pub before_start : (start n : ℕ) (values : List ℤ) → n < start → value_from start values n ≡ None
before_start start n values lt = let yes = lt-ltb n start lt in rw yes refl

slice_front : (list rest : List ℤ) (i : ℕ) → i < length list
    → slice_get (list ++ rest) i ≡ slice_get list i
slice_front list rest i lt =
    let long = length-append list rest in
    slice_get-get_or (list ++ rest) i (pos 0) (omega arith)
    ∙ ap (λ v. Some v) (get_or_append_left list rest (pos 0) i lt)
    ∙ sym (slice_get-get_or list i (pos 0) lt)

pub front_from : (start n : ℕ) (list whole : List ℤ) → IsPrefix list whole
    → n < start + length list → value_from start whole n ≡ value_from start list n
front_from start n list whole begins lt = by (nat_lt n start) refl
  where
    by : (b : Bool) → nat_lt n start ≡ b
        → cond b None (slice_get whole (n - start)) ≡ cond b None (slice_get list (n - start))
    by true e = refl
    by false e =
        let past = ltb-false n start e in
        ap (λ l. slice_get l (n - start)) (sym begins.1)
        ∙ slice_front list begins.0 (n - start) (omega arith)

pub end_more : (start : ℕ) (list whole : List ℤ) → IsPrefix list whole
    → end_from start list ≤ end_from start whole
end_more start [] whole begins = omega arith
end_more start (x ∷ xs) whole begins =
    subst (λ l. end_from start (x ∷ xs) ≤ end_from start l) begins.1
    (let long = length-append xs begins.0 in omega arith)

pub none_before : (list : List ℤ) → IsPrefix list [] → list ≡ []
none_before [] begins = refl
none_before (x ∷ xs) begins = absurd (let wrong : x ∷ (xs ++ begins.0) ≡ [] = begins.1 in cc)

-- ---- a sink that does not come

-- a task that is not live has no steps
dead_steps : (job : Job) (t : ℕ) → IsGraph job.graph → t < length job.graph.tasks
    → (span_in job t).live ≡ false → span_in job t ≡ nowhere
dead_steps job t is there dead =
    by (offset_of (spans_of job) (start_at job t) (task_at job.graph t).parent) refl
  where
    by : (o : Option ℕ)
        → offset_of (spans_of job) (start_at job t) (task_at job.graph t).parent ≡ o
        → span_in job t ≡ nowhere
    by None e =
        spans_all job t is there
        ∙ ap (span_at (task_at job.graph t) (length (samples_at job t)) (lengths_of job)) e
    by (Some offset) e =
        absurd (let live : (span_in job t).live ≡ true = ap (λ (s : Span). s.live)
        (spans_all job t is there
        ∙ ap (span_at (task_at job.graph t) (length (samples_at job t)) (lengths_of job)) e) in
        let wrong : false ≡ true = sym dead ∙ live in
        cc)

-- takes nothing then
pub dead_list : (job : Job) (t : ℕ) → IsGraph job.graph → t < length job.graph.tasks
    → is_sink_at job t ≡ true → (span_in job t).live ≡ false → sink_list job t ≡ []
dead_list job t is there sink dead =
    let kind = sink_kind (task_at job.graph t).kind sink in
    let none : takes_from (task_at job.graph t) 0 0 ≡ 0 = rw kind refl in
    let lists = numbers_of job in
    let input = get_or lists (get_or (task_at job.graph t).inputs 0 0) [] in
    ap (λ (s : Span). take (takes_from (task_at job.graph t) s.steps 0) (drop s.offset input))
    (dead_steps job t is there dead)
    ∙ ap (λ n. take n (drop 0 input)) none

-- ---- a run that goes on so

-- the moment is one of a run with these samples
pub run_of : (stream : StreamState) (s : List (List ℤ)) (m : Moment) (given : ℕ → List ℤ)
    (more : List (List ℤ)) → IsStreamAt stream s m given
    → IsFed (with_samples s stream.job) (ended_at stream) more → HasRun (with_samples more stream.job) m
run_of stream s m given more at fed =
    let job = with_samples s stream.job in
    run_fed job m more at.machine.graph at.machine.reached.ran
    (feed_continues job (ended_at stream) m more at.machine.reached.ran at.stays_open fed)

-- where a sink that joins now has begun, it is registered, and has its offset
pub record HasBegunAt (job : Job) (m : Moment) (t start : ℕ) : Type 0 where
  pub now : (task_at job.graph t).joins_now ≡ true
  pub number : ℕ
  pub numbered : m.number (input_at (task_at job.graph t) 0) t ≡ Some number
  pub offset : m.offset t ≡ start

pub has_begun : (job : Job) (m : Moment) (t start : ℕ) → sink_begins_at job m t ≡ Some start
    → HasBegunAt job m t start
has_begun job m t start is =
    by (task_at job.graph t).joins_now (m.number (input_at (task_at job.graph t) 0) t) refl refl is
  where
    by : (b : Bool) (o : Option ℕ) → (task_at job.graph t).joins_now ≡ b
        → m.number (input_at (task_at job.graph t) 0) t ≡ o
        → cond b (option_map (λ n. m.offset t) o) None ≡ Some start → HasBegunAt job m t start
    by false o stays number is = absurd (cc)
    by true None now number is = absurd (cc)
    by true (Some n) now number is = record {
      now = now;
      number = n;
      numbered = number;
      offset = same_Some (m.offset t) start is;
    }

-- so it is live, from there on
pub begun_span : (job : Job) (m : Moment) (t start : ℕ) → IsReady job → HasRun job m
    → t < length job.graph.tasks → sink_begins_at job m t ≡ Some start
    → (span_in (started job m) t).offset ≡ start
    × ((span_in (started job m) t).live ≡ true)
begun_span job m t start ready ran there is =
    let begun = has_begun job m t start is in
    let stands : Stands (started job m) m t =
    stands_all (started job m) m (ready_as job m ready) (run_started job m ran) t there
    (input_at (task_at job.graph t) 0, begun.number, begun.numbered) in
    (stands.offset ∙ begun.offset, stands.live)

-- ---- a column

-- its start, where that is known, and where not
pub known_start : (job : Job) (m : Moment) (column : Column) (start : ℕ)
    → ColumnBeginsAt job m column start → column.has_start ≡ true
    → (((task_at job.graph column.task).joins_now ≡ true)
    × (sink_begins_at job m column.task ≡ Some start) × (column.least ≤ start))
    ⊎ (((task_at job.graph column.task).joins_now ≡ false) × (start ≡ column.least))
known_start job m column start begins known = by (task_at job.graph column.task).joins_now refl
  where
    by : (b : Bool) → (task_at job.graph column.task).joins_now ≡ b
        → (((task_at job.graph column.task).joins_now ≡ true)
        × (sink_begins_at job m column.task ≡ Some start) × (column.least ≤ start))
        ⊎ (((task_at job.graph column.task).joins_now ≡ false) × (start ≡ column.least))
    by true e =
        let it : (sink_begins_at job m column.task ≡ Some start) × (column.least ≤ start) =
        rw (e, known) at begins in
        inl (e, it.0, it.1)
    by false e =
        let it : (column.has_start ≡ true) × (start ≡ column.least) = rw e at begins in
        inr (e, it.1)

pub unknown_start : (job : Job) (m : Moment) (column : Column) (start : ℕ)
    → ColumnBeginsAt job m column start → column.has_start ≡ false → start ≡ column.least
unknown_start job m column start begins unknown =
    by (task_at job.graph column.task).joins_now refl
  where
    by : (b : Bool) → (task_at job.graph column.task).joins_now ≡ b → start ≡ column.least
    by true e = let it : start ≡ column.least = rw (e, unknown) at begins in it
    by false e =
        let it : (column.has_start ≡ true) × (start ≡ column.least) = rw e at begins in
        it.1

-- what a run has of it
pub record RunsColumn (job : Job) (column : Column) (start : ℕ) (list : List ℤ) : Type 0 where
  pub begins : IsPrefix list (sink_list job column.task)
  pub known : column.has_start ≡ true → (span_in job column.task).live ≡ true
      → (span_in job column.task).offset ≡ start
  pub early : column.has_start ≡ false → (span_in job column.task).live ≡ true
      → start ≤ (span_in job column.task).offset
  pub dead : (span_in job column.task).live ≡ false → sink_list job column.task ≡ []

pub runs_column : (stream : StreamState) (s : List (List ℤ)) (m : Moment) (given : ℕ → List ℤ)
    (more : List (List ℤ)) (g : List ℤ) (column : Column) (step start : ℕ) (list : List ℤ)
    → IsStreamAt stream s m given → IsFed (with_samples s stream.job) (ended_at stream) more
    → IsReady (with_samples more stream.job)
    → ColumnStands stream.job (ended_at stream) s m g column step start list
    → column.task < length stream.job.graph.tasks → is_sink_at stream.job column.task ≡ true
    → RunsColumn (started (with_samples more stream.job) m) column start list
runs_column stream s m given more g column step start list at fed ready stands there sink =
    let job = with_samples more stream.job in
    let now = started job m in
    let t = column.task in
    record {
      begins = stands.begins more fed ready;
      known = λ has live. known has live;
      early = λ has live.
          (let from = begins_from now (suc t) t ready.graph (omega arith) there live in
          let is = unknown_start stream.job m column start stands.begun has in
          let least : column.least ≡ least_start now t = stands.least in
          let early : least_start now t ≤ (span_in now t).offset = from.early in
          omega arith);
      dead = dead_list now t ready.graph there sink;
    }
  where
    known : column.has_start ≡ true
        → (span_in (started (with_samples more stream.job) m) column.task).live ≡ true
        → (span_in (started (with_samples more stream.job) m) column.task).offset ≡ start
    known has live = elim (known_start stream.job m column start stands.begun has) [
      | inl joined ↦
          (begun_span (with_samples more stream.job) m column.task start ready
          (run_of stream s m given more at fed) there joined.1).0
      | inr stays ↦
          (begins_from (started (with_samples more stream.job) m) (suc column.task) column.task
          ready.graph (omega arith) there live).same stays.0
          ∙ (sym stands.least ∙ sym stays.1)
    ]

-- where values came of it, its start is known, and it is live
pub some_known : (job : Job) (column : Column) (start : ℕ) (list : List ℤ)
    → RunsColumn job column start list → (column.has_start ≡ false → list ≡ [])
    → (list ≡ []) ⊎ ((span_in job column.task).offset ≡ start)
some_known job column start list runs none =
    by (span_in job column.task).live column.has_start refl refl
  where
    by : (live has : Bool) → (span_in job column.task).live ≡ live → column.has_start ≡ has
        → (list ≡ []) ⊎ ((span_in job column.task).offset ≡ start)
    by false has e f =
        inl (none_before list (subst (IsPrefix list) (runs.dead e) runs.begins))
    by true false e f = inl (none f)
    by true true e f = inr (runs.known f e)

pub cell_right : (job : Job) (column : Column) (step start : ℕ) (list : List ℤ) (n : ℕ)
    → RunsColumn job column start list → (column.has_start ≡ false → list ≡ [])
    → (column.has_left ≡ false → step ≤ start + length list)
    → (column.has_left ≡ true → list ≡ sink_list job column.task) → n < step
    → value_from (span_in job column.task).offset (sink_list job column.task) n
    ≡ value_from start list n
cell_right job column step start list n runs none far whole lt =
    by (span_in job column.task).live column.has_left column.has_start refl refl refl
  where
    t : ℕ
    t = column.task

    by : (live left has : Bool) → (span_in job column.task).live ≡ live
        → column.has_left ≡ left → column.has_start ≡ has
        → value_from (span_in job column.task).offset (sink_list job column.task) n
        ≡ value_from start list n
    by false left has e l h =
        let bare = runs.dead e in
        let none_is = none_before list (subst (IsPrefix list) bare runs.begins) in
        ap (λ w. value_from (span_in job column.task).offset w n) bare
        ∙ none_from (span_in job column.task).offset n
        ∙ sym (ap (λ w. value_from start w n) none_is ∙ none_from start n)
    by true true true e l h =
        ap (λ o. value_from o (sink_list job column.task) n) (runs.known h e)
        ∙ ap (λ w. value_from start w n) (sym (whole l))
    by true true false e l h =
        let bare = none h in
        ap (λ w. value_from (span_in job column.task).offset w n) (sym (whole l) ∙ bare)
        ∙ none_from (span_in job column.task).offset n
        ∙ sym (ap (λ w. value_from start w n) bare ∙ none_from start n)
    by true false true e l h =
        let within = far l in
        ap (λ o. value_from o (sink_list job column.task) n) (runs.known h e)
        ∙ front_from start n list (sink_list job column.task) runs.begins (omega (arith, lt, within))
    by true false false e l h =
        let bare = none h in
        let none_long : length list ≡ 0 = ap length bare in
        let within = far l in
        let early = runs.early h e in
        before_start (span_in job column.task).offset n (sink_list job column.task)
        (omega (arith, lt, within, early, none_long))
        ∙ sym (ap (λ w. value_from start w n) bare ∙ none_from start n)

-- it ends no later in the run
pub end_right : (job : Job) (column : Column) (start : ℕ) (list : List ℤ)
    → RunsColumn job column start list → (column.has_start ≡ false → list ≡ [])
    → end_from start list
    ≤ end_from (span_in job column.task).offset (sink_list job column.task)
end_right job column start list runs none = elim (some_known job column start list runs none) [
  | inl bare ↦
      subst (λ l. end_from start l ≤ end_from (span_in job column.task).offset
      (sink_list job column.task)) (sym bare) (omega arith)
  | inr same ↦
      subst (λ o. end_from start list ≤ end_from o (sink_list job column.task)) (sym same)
      (end_more start list (sink_list job column.task) runs.begins)
]

-- where all its values stand in lines, it has ended
dropped_all : (n : ℕ) (list : List ℤ) → drop n list ≡ [] → length list ≤ n
dropped_all n [] e = omega arith
dropped_all zero (x ∷ xs) e = absurd (cc)
dropped_all (suc n) (x ∷ xs) e = let rest = dropped_all n xs e in omega arith

passed_end : (step start : ℕ) (list : List ℤ) → drop (step - start) list ≡ []
    → end_from start list ≤ step
passed_end step start [] e = omega arith
passed_end step start (x ∷ xs) e =
    let all = dropped_all (step - start) (x ∷ xs) e in
    omega arith

pub end_passed : (job : Job) (column : Column) (step start : ℕ) (list : List ℤ)
    → RunsColumn job column start list → (column.has_start ≡ false → list ≡ [])
    → list ≡ sink_list job column.task → drop (step - start) list ≡ []
    → end_from (span_in job column.task).offset (sink_list job column.task) ≤ step
end_passed job column step start list runs none whole passed =
    elim (some_known job column start list runs none) [
      | inl bare ↦
          subst (λ l. end_from (span_in job column.task).offset l ≤ step)
          (sym (sym whole ∙ bare)) (omega arith)
      | inr same ↦
          subst (λ o. end_from o (sink_list job column.task) ≤ step) (sym same)
          (subst (λ l. end_from start l ≤ step) whole (passed_end step start list passed))
    ]
