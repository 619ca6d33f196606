-- A column that took over what its sink has stands as before, behind more values.
use Rattle.std.proofs.Common.{◌≡◌, ◌<◌, ◌≤◌, ◌+◌, ◌-◌, ◌++◌, ℕ, ℤ, zero, suc, Bool, true, false, List, [], ◌∷◌, Option, Some, None, length, min, refl, sym, ap, subst, ◌∙◌, arith}
use Rattle.std.proofs.lemmas.List.{drop-append-le, length-append}
use Rattle.std.specs.Prelude.{IfSome, drop}
use mathlib.Core.List.{IsPrefix}
use Rattle.graph_commands.specs.ColumnTexts.{end_from}
use Rattle.stream_job.specs.SinkLines.{kept_by, kept_on, sink_begins_at}
use Rattle.stream_job.specs.Streams.{IsStreamAt, StreamState, ended_at}
use Rattle.graph_base.specs.Graphs.{task_at}
use Rattle.graph_runs.specs.InTime.{BeginsInTime}
use Rattle.graph_runs.specs.Moments.{Moment, input_at, started}
use Rattle.graph_runs.specs.Settled.{IsReady}
use Rattle.stream_lists.specs.Jobs.{Job, with_samples}
use Rattle.phase_stream.specs.Columns.{ColumnBeginsAt, ColumnStands, InRuns, TakesOver, least_start, started_column}
use Rattle.phase_stream.specs.Sessions.{sink_list}
use Rattle.phase_stream.specs.declared.column.Column.{Column}
use Rattle.phase_stream.proofs.LeastStarts.{begins_from}
use Rattle.phase_stream.proofs.RightColumns.{before_start, begun_span, end_more, front_from, unknown_start}

-- a column that has left is as it was
pub left_over : (stream : StreamState) (s : List (List ℤ)) (m : Moment) (g : List ℤ)
    (column : Column) (step start : ℕ) (list : List ℤ) → column.has_left ≡ true
    → ColumnStands stream.job (ended_at stream) s m g column step start list → TakesOver stream.job (ended_at stream) s m column step start list
left_over stream s m g column step start list left stands = record {
  later = start;
  values = list;
  stands = record {
    least = stands.least;
    begun = stands.begun;
    late = stands.late;
    waits = stands.waits;
    far = stands.far;
    counted = stands.counted;
    none = stands.none;
    all = λ stays. absurd (let wrong : false ≡ true = sym stays ∙ left in cc);
    begins = stands.begins;
    whole = stands.whole;
  };
  same = λ n lt. refl;
  more = omega arith;
}

-- ---- what it takes over

-- what the sink has at this moment, behind what was handed over
pub record HasMore (stream : StreamState) (s : List (List ℤ)) (m : Moment) (given : List ℤ)
    (old new : Column) (values : List ℤ) : Type 0 where
  pub stays : old.has_left ≡ false
  pub task : new.task ≡ old.task
  pub least : new.least ≡ old.least
  pub items : new.values.items ≡ old.values.items ++ values
  pub counted : new.count ≡ min 18446744073709551615 (old.count + length values)
  pub kept : given ++ values ≡ kept_by stream.job m old.task
  pub right : InRuns stream.job (ended_at stream) s m (λ job. IsPrefix (given ++ values) (sink_list job old.task))
  pub whole : new.has_left ≡ true → InRuns stream.job (ended_at stream) s m (λ job.
      (kept_by stream.job m old.task ≡ sink_list job old.task) × BeginsInTime job old.task)

all_are : (stream : StreamState) (s : List (List ℤ)) (m : Moment) (given : List ℤ)
    (old new : Column) (values : List ℤ) (step start : ℕ) (list : List ℤ)
    → HasMore stream s m given old new values → ColumnStands stream.job (ended_at stream) s m given old step start list
    → list ++ values ≡ kept_by stream.job m new.task
all_are stream s m given old new values step start list more stands =
    ap (λ l. l ++ values) (stands.all more.stays) ∙ more.kept
    ∙ ap (kept_by stream.job m) (sym more.task)

count_now : (stream : StreamState) (s : List (List ℤ)) (m : Moment) (given : List ℤ)
    (old new : Column) (values : List ℤ) (step start : ℕ) (list : List ℤ)
    → HasMore stream s m given old new values → ColumnStands stream.job (ended_at stream) s m given old step start list
    → new.count ≡ min 18446744073709551615 (length (list ++ values))
count_now stream s m given old new values step start list more stands =
    let counted = more.counted in
    let before = stands.counted in
    let long = length-append list values in
    omega (arith, counted, before, long)

-- the facts that do not look at its start
begins_now : (stream : StreamState) (s : List (List ℤ)) (m : Moment) (given : List ℤ)
    (old new : Column) (values : List ℤ) (step start : ℕ) (list : List ℤ)
    → HasMore stream s m given old new values → ColumnStands stream.job (ended_at stream) s m given old step start list
    → InRuns stream.job (ended_at stream) s m (λ job. IsPrefix (list ++ values) (sink_list job new.task))
begins_now stream s m given old new values step start list more stands = λ later fed ready.
    subst (λ t. IsPrefix (list ++ values) (sink_list (started (with_samples later stream.job) m) t))
    (sym more.task)
    (subst (λ l. IsPrefix (l ++ values) (sink_list (started (with_samples later stream.job) m) old.task))
    (sym (stands.all more.stays)) (more.right later fed ready))

whole_now : (stream : StreamState) (s : List (List ℤ)) (m : Moment) (given : List ℤ)
    (old new : Column) (values : List ℤ) (step start : ℕ) (list : List ℤ)
    → HasMore stream s m given old new values → ColumnStands stream.job (ended_at stream) s m given old step start list
    → new.has_left ≡ true → InRuns stream.job (ended_at stream) s m (λ job.
    (list ++ values ≡ sink_list job new.task) × BeginsInTime job new.task)
whole_now stream s m given old new values step start list more stands left = λ later fed ready.
    (let it = more.whole left later fed ready in
    let job = started (with_samples later stream.job) m in (
      all_are stream s m given old new values step start list more stands
          ∙ ap (kept_by stream.job m) more.task ∙ it.0 ∙ ap (sink_list job) (sym more.task),
      subst (BeginsInTime job) (sym more.task) it.1,
    ))

-- where its start is as it was
pub stays_over : (stream : StreamState) (s : List (List ℤ)) (m : Moment) (given : List ℤ)
    (old new : Column) (values : List ℤ) (step start : ℕ) (list : List ℤ)
    → HasMore stream s m given old new values → ColumnStands stream.job (ended_at stream) s m given old step start list
    → new.late ≡ old.late → new.has_start ≡ old.has_start
    → (old.has_start ≡ false → kept_by stream.job m old.task ≡ [])
    → TakesOver stream.job (ended_at stream) s m new step start list
stays_over stream s m given old new values step start list more stands late has bare =
    let far = stands.far more.stays in
    let long = length-append list values in
    record {
      later = start;
      values = list ++ values;
      stands = record {
        least = more.least ∙ stands.least ∙ ap (least_start stream.job) (sym more.task);
        begun = begins;
        late = late ∙ stands.late;
        waits = more.items ∙ ap (λ l. l ++ values) stands.waits
            ∙ sym (drop-append-le (step - start) list values (omega (arith, far)));
        far = λ stays. omega (arith, far, long);
        counted = count_now stream s m given old new values step start list more stands;
        none = λ unknown.
            all_are stream s m given old new values step start list more stands
            ∙ ap (kept_by stream.job m) more.task ∙ bare (sym has ∙ unknown);
        all = λ stays. all_are stream s m given old new values step start list more stands;
        begins = begins_now stream s m given old new values step start list more stands;
        whole = whole_now stream s m given old new values step start list more stands;
      };
      same = λ n lt. front_from start n list (list ++ values) (values, refl) (omega (arith, lt, far));
      more = end_more start list (list ++ values) (values, refl);
    }
  where
    begins : ColumnBeginsAt stream.job m new start
    begins = rw (more.task, more.least, has) stands.begun

-- where no start is known of a sink that joins now, nothing came of it
pub none_kept : (job : Job) (m : Moment) (t : ℕ) → (task_at job.graph t).joins_now ≡ true
    → sink_begins_at job m t ≡ None → kept_by job m t ≡ []
none_kept job m t now none = by (m.number (input_at (task_at job.graph t) 0) t) refl
  where
    by : (o : Option ℕ) → m.number (input_at (task_at job.graph t) 0) t ≡ o → kept_by job m t ≡ []
    by None e = ap (kept_on job m (input_at (task_at job.graph t) 0)) e
    by (Some n) e = let wrong : Some (m.offset t) ≡ None = rw (now, e) at none in absurd (cc)

-- once its start is known
pub found_over : (stream : StreamState) (s : List (List ℤ)) (m : Moment) (given : ℕ → List ℤ)
    (old new : Column) (values : List ℤ) (step start found : ℕ) (list : List ℤ)
    → IsStreamAt stream s m given → old.task < length stream.job.graph.tasks
    → HasMore stream s m (given old.task) old new values
    → ColumnStands stream.job (ended_at stream) s m (given old.task) old step start list
    → old.has_start ≡ false → sink_begins_at stream.job m old.task ≡ Some found
    → found ≤ 18446744073709551615
    → new.late ≡ min 340282366920938463463374607431768211455 (old.late + (found - old.least))
    → new.has_start ≡ true → TakesOver stream.job (ended_at stream) s m new step start list
found_over stream s m given old new values step start found list at there more stands unknown is small late has =
    let fed_job = with_samples s stream.job in
    let ready : IsReady fed_job = record { graph = at.machine.graph; apart = at.machine.apart } in
    let span = begun_span fed_job m old.task found ready at.machine.reached.ran there is in
    let from = begins_from (started fed_job m) (suc old.task) old.task at.machine.graph (omega arith)
    there span.1 in
    let early : least_start stream.job old.task ≤ found =
    subst (λ n. least_start stream.job old.task ≤ n) span.0 from.early in
    let least = stands.least in
    let far = stands.far more.stays in
    let bare = stands.none unknown in
    let none_long : length list ≡ 0 = ap length bare in
    let start_is = unknown_start stream.job m old start stands.begun unknown in
    let old_late = stands.late in
    let empty : old.values.items ≡ [] =
    stands.waits ∙ drop_none (step - start) list bare in
    let early_in : step ≤ found = omega (arith, far, none_long, start_is, least, early) in
    let none_yet : step - found ≡ 0 = omega (arith, early_in) in
    let long = length-append list values in
    record {
      later = found;
      values = list ++ values;
      stands = record {
        least = more.least ∙ stands.least ∙ ap (least_start stream.job) (sym more.task);
        begun = begins (omega (arith, early, least));
        late = late ∙ omega (arith, far, none_long, start_is, least, early, old_late, small);
        waits = more.items ∙ ap (λ l. l ++ values) empty
            ∙ sym (ap (λ n. drop n (list ++ values)) none_yet ∙ ap (λ l. l ++ values) bare);
        far = λ stays. omega (arith, early_in);
        counted = count_now stream s m (given old.task) old new values step start list more stands;
        none = λ no. absurd (let wrong : true ≡ false = sym has ∙ no in cc);
        all = λ stays. all_are stream s m (given old.task) old new values step start list more stands;
        begins = begins_now stream s m (given old.task) old new values step start list more stands;
        whole = whole_now stream s m (given old.task) old new values step start list more stands;
      };
      same = λ n lt. before_start found n (list ++ values) (omega (arith, lt, early_in))
          ∙ sym (before_start start n list (omega (arith, lt, far, none_long)));
      more = subst (λ l. end_from start l ≤ end_from found (l ++ values)) (sym bare) (omega arith);
    }
  where
    drop_none : (n : ℕ) (none : List ℤ) → none ≡ [] → drop n none ≡ []
    drop_none zero none e = e
    drop_none (suc n) [] e = refl
    drop_none (suc n) (x ∷ xs) e = absurd (cc)

    now : (task_at stream.job.graph old.task).joins_now ≡ true
    now = by (task_at stream.job.graph old.task).joins_now refl
      where
        by : (b : Bool) → (task_at stream.job.graph old.task).joins_now ≡ b
            → (task_at stream.job.graph old.task).joins_now ≡ true
        by true e = e
        by false e = let wrong : None ≡ Some found = rw e at is in absurd (cc)

    begins : old.least ≤ found → ColumnBeginsAt stream.job m new found
    begins le = rw (more.task, more.least, has, now) (is, le)

-- ---- both

-- with a start it is the same sink, of which the same waits
pub with_count : (found : Option ℕ) (column : Column)
    → (started_column found column).count ≡ column.count
with_count None column = refl
with_count (Some start) column = refl

pub with_task : (found : Option ℕ) (column : Column) → (started_column found column).task ≡ column.task
with_task None column = refl
with_task (Some start) column = refl

pub with_least : (found : Option ℕ) (column : Column) → (started_column found column).least ≡ column.least
with_least None column = refl
with_least (Some start) column = refl

pub with_items : (found : Option ℕ) (column : Column)
    → (started_column found column).values.items ≡ column.values.items
with_items None column = refl
with_items (Some start) column = refl

-- what the sink of task t has, which is that of the column
pub has_more : (stream : StreamState) (s : List (List ℤ)) (m : Moment) (given : ℕ → List ℤ)
    (old new : Column) (values : List ℤ) (t : ℕ) → old.has_left ≡ false → t ≡ old.task
    → new.task ≡ old.task → new.least ≡ old.least → new.values.items ≡ old.values.items ++ values
    → new.count ≡ min 18446744073709551615 (old.count + length values)
    → given t ++ values ≡ kept_by stream.job m t
    → InRuns stream.job (ended_at stream) s m (λ job. IsPrefix (given t ++ values) (sink_list job t))
    → (new.has_left ≡ true → InRuns stream.job (ended_at stream) s m (λ job.
    (kept_by stream.job m t ≡ sink_list job t) × BeginsInTime job t))
    → HasMore stream s m (given old.task) old new values
has_more stream s m given old new values t stays same task least items counted kept right whole = record {
  stays = stays;
  task = task;
  least = least;
  items = items;
  counted = counted;
  kept = subst (λ u. given u ++ values ≡ kept_by stream.job m u) same kept;
  right = subst (λ u. InRuns stream.job (ended_at stream) s m
      (λ job. IsPrefix (given u ++ values) (sink_list job u))) same right;
  whole = λ left. subst (λ u. InRuns stream.job (ended_at stream) s m (λ job.
      (kept_by stream.job m u ≡ sink_list job u) × BeginsInTime job u)) same (whole left);
}

joins_unknown : (job : Job) (m : Moment) (column : Column) (start : ℕ) → ColumnBeginsAt job m column start
    → column.has_start ≡ false → (task_at job.graph column.task).joins_now ≡ true
joins_unknown job m column start begins unknown = by (task_at job.graph column.task).joins_now refl
  where
    by : (b : Bool) → (task_at job.graph column.task).joins_now ≡ b
        → (task_at job.graph column.task).joins_now ≡ true
    by true e = e
    by false e =
        let it : (column.has_start ≡ true) × (start ≡ column.least) = rw e at begins in
        absurd (let wrong : false ≡ true = sym unknown ∙ it.0 in cc)

-- whether or not its start is found
pub found_or_not : (stream : StreamState) (s : List (List ℤ)) (m : Moment) (given : ℕ → List ℤ)
    (old new : Column) (values : List ℤ) (step start : ℕ) (list : List ℤ) (found : Option ℕ)
    → IsStreamAt stream s m given → old.task < length stream.job.graph.tasks
    → HasMore stream s m (given old.task) old new values
    → ColumnStands stream.job (ended_at stream) s m (given old.task) old step start list
    → old.has_start ≡ false → sink_begins_at stream.job m old.task ≡ found
    → IfSome found (λ n. n ≤ 18446744073709551615)
    → new.late ≡ (started_column found old).late → new.has_start ≡ (started_column found old).has_start
    → TakesOver stream.job (ended_at stream) s m new step start list
found_or_not stream s m given old new values step start list None at there more stands unknown is small late has =
    stays_over stream s m (given old.task) old new values step start list more stands late has
    (λ no. none_kept stream.job m old.task
    (joins_unknown stream.job m old start stands.begun unknown) is)
found_or_not stream s m given old new values step start list (Some found) at there more stands unknown is small late has =
    found_over stream s m given old new values step start found list at there more stands unknown is
    small late has
