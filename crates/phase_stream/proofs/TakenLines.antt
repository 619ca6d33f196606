-- A table that took over what a sink has shows the same lines.
use Rattle.std.proofs.Common.{◌≡◌, ◌≢◌, ◌⊎◌, inl, inr, ◌<◌, ◌≤◌, ◌+◌, ◌-◌, ◌++◌, eqb, ℕ, ℤ, zero, suc, Bool, true, false, List, [], ◌∷◌, Some, None, length, get_or, map, set, refl, sym, ap, subst, ◌∙◌, append-nil, arith}
use Rattle.std.proofs.lemmas.Bool.{eqb-true, lt-ltb, ltb-false, ltb-true}
use Rattle.std.proofs.lemmas.List.{map_push}
use Rattle.std.proofs.lemmas.Option.{same_Some}
use Rattle.std.specs.Prelude.{drop, if◌then◌else◌, nat_lt, slice_get}
use Rattle.graph_commands.specs.ColumnTexts.{end_from, value_from}
use Rattle.stream_job.specs.SinkLines.{kept_by}
use Rattle.graph_base.specs.Graphs.{task_at}
use Rattle.graph_runs.specs.Moments.{Moment}
use Rattle.graph_runs.specs.Turned.{with_at}
use Rattle.stream_lists.specs.Jobs.{Job}
use Rattle.stream_lists.specs.Lists.{is_sink_at, sinks_of}
use Rattle.graph_runs.proofs.Turned.{at_other, at_same}
use Rattle.stream_lists.proofs.Growing.{map-same}
use Rattle.phase_stream.specs.Columns.{ColumnBeginsAt, ColumnStands, IsNewColumn, TakesOver, least_start}
use Rattle.phase_stream.specs.TableLines.{AreNewColumns, HasLast, Shows, ShowsMore, View, by_number, table_text}
use Rattle.phase_stream.specs.declared.column.Column.{Column}
use Rattle.phase_stream.proofs.LineTexts.{same_text}
use Rattle.phase_stream.proofs.RightTables.{column_there}
use Rattle.phase_stream.proofs.Sinking.{sinks_before, sinks_no, sinks_yes}
use Rattle.phase_stream.proofs.Standing.{set_get}

-- ---- what was handed over

-- the same was handed over of each
pub shows_given : (job : Job) (ended : ℕ → Bool) (going : Bool) (s : List (List ℤ)) (m : Moment) (g h : ℕ → List ℤ)
    (columns : List Column) (view : View) → ((k : ℕ) → k < length (sinks_of job) → h k ≡ g k)
    → Shows job ended going s m g columns view → Shows job ended going s m h columns view
shows_given job ended going s m g h columns view same shows = record {
  tasks = shows.tasks;
  stand = λ k column got.
      subst (λ l. ColumnStands job ended s m l column view.step (view.starts k) (view.lists k))
      (sym (same k (column_there job columns k column shows.tasks got).0)) (shows.stand k column got);
  last = shows.last;
  left = shows.left;
}

-- ---- one column

-- the view with another start and other values of a sink
abbrev pub view_with : ℕ → ℕ → List ℤ → View → View
view_with n start list view =
    record view { starts = with_at n start view.starts; lists = with_at n list view.lists }

set_tasks : (columns : List Column) (n : ℕ) (new : Column)
    → new.task ≡ get_or (map (λ column. column.task) columns) n 0
    → map (λ column. column.task) (set columns n new) ≡ map (λ column. column.task) columns
set_tasks [] n new same = refl
set_tasks (c ∷ columns) zero new same =
    ap (λ t. t ∷ map (λ column. column.task) columns) same
set_tasks (c ∷ columns) (suc n) new same = ap (λ l. c.task ∷ l) (set_tasks columns n new same)

-- a column of the same task
pub columns_tasks : (columns : List Column) (n : ℕ) (now new : Column)
    → slice_get columns n ≡ Some now → new.task ≡ now.task
    → map (λ column. column.task) (set columns n new) ≡ map (λ column. column.task) columns
columns_tasks [] n now new got same = refl
columns_tasks (c ∷ columns) zero now new got same =
    ap (λ t. t ∷ map (λ column. column.task) columns)
    (same ∙ sym (ap (λ (x : Column). x.task) (same_Some c now got)))
columns_tasks (c ∷ columns) (suc n) now new got same =
    ap (λ l. c.task ∷ l) (columns_tasks columns n now new got same)

pub takes_more : (job : Job) (ended : ℕ → Bool) (going : Bool) (s : List (List ℤ)) (m : Moment) (g h : ℕ → List ℤ)
    (columns : List Column) (view : View) (n : ℕ) (old new : Column)
    → Shows job ended going s m g columns view
    → TakesOver job ended s m new view.step (view.starts n) (view.lists n)
    → slice_get columns n ≡ Some old
    → ((old.has_start ≡ false → old.has_left ≡ false) → new.has_start ≡ false
    → new.has_left ≡ false)
    → new.task ≡ get_or (sinks_of job) n 0 → h n ≡ kept_by job m new.task
    → ((k : ℕ) → k ≢ n → h k ≡ g k) → ShowsMore job ended going s m h view (set columns n new) []
takes_more job ended going s m g h columns view n old new shows over there left task kept others = record {
  later = view_with n over.later over.values view;
  shows = record {
    tasks = set_tasks columns n new (task ∙ ap (λ l. get_or l n 0) (sym shows.tasks)) ∙ shows.tasks;
    stand = λ k column got. stand k column (set_get columns n k new column got);
    last = λ some. last (shows.last some);
    left = λ goes k column got unknown. known goes k column unknown (set_get columns n k new column got);
  };
  text = same_text job (view_with n over.later over.values view) view refl
      (λ i lt. map-same
      (λ k. value_from (with_at n over.later view.starts k) (with_at n over.values view.lists k) i)
      (λ k. value_from (view.starts k) (view.lists k) i) 0 (length (sinks_of job))
      (λ k less. cell i lt k (eqb k n) refl))
      ∙ sym (append-nil (table_text job view));
}
  where
    known : going ≡ true → (k : ℕ) (column : Column) → column.has_start ≡ false
        → ((k ≡ n) × (column ≡ new)) ⊎ ((k ≢ n) × (slice_get columns k ≡ Some column))
        → column.has_left ≡ false
    known goes k column unknown (inl here) =
        ap (λ (c : Column). c.has_left) here.1
        ∙ left (shows.left goes n old there) (sym (ap (λ (c : Column). c.has_start) here.1) ∙ unknown)
    known goes k column unknown (inr apart) = shows.left goes k column apart.1 unknown

    stand : (k : ℕ) (column : Column) → ((k ≡ n) × (column ≡ new))
        ⊎ ((k ≢ n) × (slice_get columns k ≡ Some column))
        → ColumnStands job ended s m (h k) column view.step (with_at n over.later view.starts k)
        (with_at n over.values view.lists k)
    stand k column (inl here) =
        subst (λ j. ColumnStands job ended s m (h j) column view.step (with_at n over.later view.starts j)
        (with_at n over.values view.lists j)) (sym here.0)
        (subst (λ c. ColumnStands job ended s m (h n) c view.step (with_at n over.later view.starts n)
        (with_at n over.values view.lists n)) (sym here.1)
        (subst (λ l. ColumnStands job ended s m l new view.step (with_at n over.later view.starts n)
        (with_at n over.values view.lists n)) (sym kept)
        (subst (λ a. ColumnStands job ended s m (kept_by job m new.task) new view.step a
        (with_at n over.values view.lists n)) (sym (at_same n over.later view.starts))
        (subst (λ l. ColumnStands job ended s m (kept_by job m new.task) new view.step over.later l)
        (sym (at_same n over.values view.lists)) over.stands))))
    stand k column (inr apart) =
        subst (λ l. ColumnStands job ended s m l column view.step (with_at n over.later view.starts k)
        (with_at n over.values view.lists k)) (sym (others k apart.0))
        (subst (λ a. ColumnStands job ended s m (g k) column view.step a (with_at n over.values view.lists k))
        (sym (at_other n over.later view.starts k apart.0))
        (subst (λ l. ColumnStands job ended s m (g k) column view.step (view.starts k) l)
        (sym (at_other n over.values view.lists k apart.0)) (shows.stand k column apart.1)))

    cell : (i : ℕ) → i < view.step → (k : ℕ) (b : Bool) → eqb k n ≡ b
        → value_from (with_at n over.later view.starts k) (with_at n over.values view.lists k) i
        ≡ value_from (view.starts k) (view.lists k) i
    cell i lt k true e =
        let is = eqb-true k n e in
        rw e (over.same i lt ∙ sym (ap (λ j. value_from (view.starts j) (view.lists j) i) is))
    cell i lt k false e = rw e refl

    last : HasLast job view → HasLast job (view_with n over.later over.values view)
    last has = record {
      sink = has.sink;
      there = has.there;
      last = ends (eqb has.sink n) refl;
    }
      where
        ends : (b : Bool) → eqb has.sink n ≡ b
            → view.step ≤ end_from (with_at n over.later view.starts has.sink)
            (with_at n over.values view.lists has.sink)
        ends true e =
            let is = eqb-true has.sink n e in
            let le = has.last in
            let more = over.more in
            let here : view.step ≤ end_from (view.starts n) (view.lists n) =
            subst (λ j. view.step ≤ end_from (view.starts j) (view.lists j)) is le in
            rw e (omega arith)
        ends false e = rw e has.last

-- with no bytes more, behind a table with none more
pub shows_behind : (job : Job) (ended : ℕ → Bool) (going : Bool) (s : List (List ℤ)) (m : Moment)
    (g h : ℕ → List ℤ) (view : View) (one two : List Column)
    → (first : ShowsMore job ended going s m g view one [])
    → ShowsMore job ended going s m h first.later two []
    → ShowsMore job ended going s m h view two []
shows_behind job ended going s m g h view one two first next = record {
  later = next.later;
  shows = next.shows;
  text = next.text ∙ append-nil (table_text job first.later) ∙ first.text;
}

-- ---- the first so many columns

-- of the first n sinks all that they have was handed over, and of the others this
abbrev pub taken_of : Job → Moment → (ℕ → List ℤ) → ℕ → ℕ → List ℤ
taken_of job m given n k =
    if nat_lt k n then by_number job (kept_by job m) k else by_number job given k

not_lt : (a b : ℕ) → (a < b → ⊥) → nat_lt a b ≡ false
not_lt a b never = by (nat_lt a b) refl
  where
    by : (x : Bool) → nat_lt a b ≡ x → nat_lt a b ≡ false
    by false e = e
    by true e = absurd (never (ltb-true a b e))

pub taken_none : (job : Job) (m : Moment) (given : ℕ → List ℤ) (k : ℕ)
    → taken_of job m given 0 k ≡ by_number job given k
taken_none job m given k = let no = not_lt k 0 (λ lt. omega (arith, lt)) in rw no refl

pub taken_here : (job : Job) (m : Moment) (given : ℕ → List ℤ) (n k : ℕ) → k < n
    → taken_of job m given n k ≡ by_number job (kept_by job m) k
taken_here job m given n k lt = let yes = lt-ltb k n lt in rw yes refl

pub taken_not : (job : Job) (m : Moment) (given : ℕ → List ℤ) (n k : ℕ) → (k < n → ⊥)
    → taken_of job m given n k ≡ by_number job given k
taken_not job m given n k never = let no = not_lt k n never in rw no refl

pub taken_apart : (job : Job) (m : Moment) (given : ℕ → List ℤ) (n k : ℕ) → k ≢ n
    → taken_of job m given (n + 1) k ≡ taken_of job m given n k
taken_apart job m given n k apart = by (nat_lt k n) refl
  where
    by : (b : Bool) → nat_lt k n ≡ b → taken_of job m given (n + 1) k ≡ taken_of job m given n k
    by true e =
        let lt = ltb-true k n e in
        taken_here job m given (n + 1) k (omega (arith, lt)) ∙ sym (taken_here job m given n k lt)
    by false e =
        let le = ltb-false k n e in
        taken_not job m given (n + 1) k (λ lt. (let is : k ≡ n = omega (arith, lt, le) in apart is))
        ∙ sym (taken_not job m given n k (λ lt. omega (arith, lt, le)))

-- all of them
pub taken_all : (job : Job) (ended : ℕ → Bool) (going : Bool) (s : List (List ℤ)) (m : Moment) (given : ℕ → List ℤ)
    (columns : List Column) (view : View) (n : ℕ) → length (sinks_of job) ≤ n
    → Shows job ended going s m (taken_of job m given n) columns view
    → Shows job ended going s m (by_number job (kept_by job m)) columns view
taken_all job ended going s m given columns view n all shows = record {
  tasks = shows.tasks;
  stand = λ k column got.
      (let lt = (column_there job columns k column shows.tasks got).0 in
      subst (λ l. ColumnStands job ended s m l column view.step (view.starts k) (view.lists k))
      (taken_here job m given n k (omega (arith, lt, all))) (shows.stand k column got));
  last = shows.last;
  left = shows.left;
}

-- ---- a table of which nothing was written

drop_none : (n : ℕ) (none : List ℤ) → none ≡ [] → drop n none ≡ []
drop_none zero none e = e
drop_none (suc n) [] e = refl
drop_none (suc n) (x ∷ xs) e = absurd (cc)

-- a column for each sink among the first n tasks
pub record AreNewBefore (job : Job) (n : ℕ) (columns : List Column) : Type 0 where
  pub tasks : map (λ column. column.task) columns ≡ sinks_before job n
  pub each : (k : ℕ) (column : Column) → slice_get columns k ≡ Some column
      → IsNewColumn job column.task column

pushed : (columns : List Column) (new column : Column) (k : ℕ)
    → slice_get (columns ++ new ∷ []) k ≡ Some column
    → (slice_get columns k ≡ Some column) ⊎ (column ≡ new)
pushed [] new column zero got = inr (sym (same_Some new column got))
pushed [] new column (suc k) got = absurd (let wrong : None ≡ Some column = got in cc)
pushed (c ∷ columns) new column zero got = inl got
pushed (c ∷ columns) new column (suc k) got = pushed columns new column k got

pub new_more : (job : Job) (n : ℕ) (columns : List Column) (new : Column)
    → AreNewBefore job n columns → is_sink_at job n ≡ true → IsNewColumn job n new
    → AreNewBefore job (n + 1) (columns ++ new ∷ [])
new_more job n columns new before sink is = record {
  tasks = map_push (λ column. column.task) columns new
      ∙ ap (λ l. l ++ new.task ∷ []) before.tasks
      ∙ ap (λ t. sinks_before job n ++ t ∷ []) is.task ∙ sym (sinks_yes job n sink);
  each = λ k column got. each k column (pushed columns new column k got);
}
  where
    each : (k : ℕ) (column : Column) → (slice_get columns k ≡ Some column) ⊎ (column ≡ new)
        → IsNewColumn job column.task column
    each k column (inl there) = before.each k column there
    each k column (inr same) =
        subst (λ (c : Column). IsNewColumn job c.task c) (sym same)
        (subst (λ t. IsNewColumn job t new) (sym is.task) is)

pub new_same : (job : Job) (n : ℕ) (columns : List Column) → AreNewBefore job n columns
    → is_sink_at job n ≡ false → AreNewBefore job (n + 1) columns
new_same job n columns before none = record {
  tasks = before.tasks ∙ sym (sinks_no job n none);
  each = before.each;
}

-- nothing of it
abbrev pub view_none : Job → View
view_none job = record {
  step = 0;
  starts = λ k. least_start job (get_or (sinks_of job) k 0);
  lists = λ k. [];
}

pub shows_none : (job : Job) (ended : ℕ → Bool) (going : Bool) (s : List (List ℤ)) (m : Moment) (given : ℕ → List ℤ)
    (columns : List Column) → AreNewColumns job columns → ((k : ℕ) → given k ≡ [])
    → Shows job ended going s m given columns (view_none job)
shows_none job ended going s m given columns new bare = record {
  tasks = new.tasks;
  stand = λ k column got.
      (let is = new.each k column got in
      let task = (column_there job columns k column new.tasks got).1 in
      let start : column.least ≡ least_start job (get_or (sinks_of job) k 0) =
      is.least ∙ ap (least_start job) task in
      record {
        least = is.least;
        begun = begins column is (least_start job (get_or (sinks_of job) k 0)) (sym start);
        late = is.late ∙ (let same = start in omega arith);
        waits = is.values ∙ sym (drop_none (0 - least_start job (get_or (sinks_of job) k 0)) [] refl);
        far = λ stays. omega arith;
        counted = is.count;
        none = λ unknown. refl;
        all = λ stays. sym (bare k);
        begins = λ more fed ready. (_, refl);
        whole = λ left. absurd (let wrong : false ≡ true = sym is.has_left ∙ left in cc);
      });
  last = λ some. absurd (omega arith);
  left = λ goes k column got unknown. (new.each k column got).has_left;
}
  where
    begins : (column : Column) → IsNewColumn job column.task column → (start : ℕ)
        → start ≡ column.least → ColumnBeginsAt job m column start
    begins column is start same = by (task_at job.graph column.task).joins_now refl
      where
        by : (b : Bool) → (task_at job.graph column.task).joins_now ≡ b
            → ColumnBeginsAt job m column start
        by true e = rw (is.has_start, e) same
        by false e = rw (is.has_start, e) (refl, same)
