-- A line more of a table: what stands in it, and how the columns stand behind it.
use Rattle.std.proofs.Common.{◌≡◌, ◌⊎◌, inl, inr, ◌<◌, ◌≤◌, ◌+◌, ◌-◌, ◌++◌, cond, ℕ, ℤ, zero, suc, Bool, true, false, List, [], ◌∷◌, Option, Some, None, length, get_or, map, refl, sym, ap, subst, ◌∙◌, append-nil, append_assoc, arith}
use Rattle.std.proofs.KnownBytes.{Appends-trans}
use Rattle.std.proofs.lemmas.Bool.{ltb-false, ltb-true, and_parts}
use Rattle.std.proofs.lemmas.List.{get_or-map, length-map, same_lists}
use Rattle.std.proofs.lemmas.List.FromFn.{get_or-map-range_with_len, length-map-range_with_len}
use Rattle.std.proofs.lemmas.Option.{get_or_from_slice_get, same_Some, slice_get-get_or, slice_get_within}
use Rattle.std.specs.Prelude.{drop, if◌then◌else◌, nat_lt, slice_get}
use Rattle.std.specs.Io.KnownBytes.{Appends}
use Rattle.std.specs.List.{list_all, list_any, range_with_len}
use mathlib.Core.List.{IsPrefix}
use Rattle.graph_commands.specs.ColumnTexts.{end_from, value_from}
use Rattle.watched_io.specs.Prefix.{AppendsPrefix}
use Rattle.graph_runs.specs.InTime.{BeginsInTime}
use Rattle.graph_runs.specs.Moments.{Moment, started}
use Rattle.stream_lists.specs.Jobs.{Job, with_samples}
use Rattle.stream_lists.specs.Lists.{sinks_of}
use Rattle.phase_stream.specs.Columns.{ColumnBeginsAt, ColumnStands, HasPassedLine, IsSameSink, has_value, is_known, least_start, next_cell}
use Rattle.phase_stream.specs.Sessions.{sink_list}
use Rattle.phase_stream.specs.TableLines.{EachGoes, HasLast, Shows, ShowsMore, View, cells_at, has_line, line_of, next_line, table_text}
use Rattle.phase_stream.specs.declared.column.Column.{Column}
use Rattle.phase_stream.proofs.LineTexts.{line_more}
use Rattle.phase_stream.proofs.RightTables.{column_at, column_there}

-- ---- a column

drop_one : (n : ℕ) (list : List ℤ) → drop 1 (drop n list) ≡ drop (suc n) list
drop_one zero [] = refl
drop_one zero (x ∷ xs) = refl
drop_one (suc n) [] = refl
drop_one (suc n) (x ∷ xs) = drop_one n xs

slice_dropped : (n : ℕ) (list : List ℤ) → slice_get (drop n list) 0 ≡ slice_get list n
slice_dropped zero list = refl
slice_dropped (suc n) [] = refl
slice_dropped (suc n) (x ∷ xs) = slice_dropped n xs

some_dropped : (n : ℕ) (list : List ℤ) → nat_lt 0 (length (drop n list)) ≡ true → n < length list
some_dropped zero [] e = absurd (cc)
some_dropped zero (x ∷ xs) e = omega arith
some_dropped (suc n) [] e = absurd (cc)
some_dropped (suc n) (x ∷ xs) e = let rest = some_dropped n xs e in omega arith

nat_lt_same : (a b c d : ℕ) → (a < b → c < d) → (c < d → a < b) → nat_lt a b ≡ nat_lt c d
nat_lt_same a b c d there back = by (nat_lt a b) (nat_lt c d) refl refl
  where
    by : (x y : Bool) → nat_lt a b ≡ x → nat_lt c d ≡ y → nat_lt a b ≡ nat_lt c d
    by true true e f = e ∙ sym f
    by false false e f = e ∙ sym f
    by true false e f =
        absurd (let le = ltb-false c d f in let lt = there (ltb-true a b e) in omega arith)
    by false true e f =
        absurd (let le = ltb-false a b e in let lt = back (ltb-true c d f) in omega arith)

-- what stands in it at the next step
pub next_is : (job : Job) (ended : ℕ → Bool) (s : List (List ℤ)) (m : Moment) (g : List ℤ)
    (column : Column) (step start : ℕ) (list : List ℤ)
    → ColumnStands job ended s m g column step start list
    → next_cell column ≡ value_from start list step
next_is job ended s m g column step start list stands =
    ap (λ values. if nat_lt 0 column.late then None else slice_get values 0) stands.waits
    ∙ ap (λ b. if b then None else slice_get (drop (step - start) list) 0)
    (nat_lt_same 0 column.late step start
    (λ lt. (let late = stands.late in omega (arith, lt, late)))
    (λ lt. (let late = stands.late in omega (arith, lt, late))))
    ∙ ap (λ o. if nat_lt step start then None else o) (slice_dropped (step - start) list)

-- of what is known: it begins later, has left, or has a value there
known_so : (column : Column) → is_known column ≡ true
    → (0 < column.late) ⊎ ((column.has_left ≡ true) ⊎ (has_value column ≡ true))
known_so column known = by (nat_lt 0 column.late) column.has_left refl refl
  where
    by : (x y : Bool) → nat_lt 0 column.late ≡ x → column.has_left ≡ y
        → (0 < column.late) ⊎ ((column.has_left ≡ true) ⊎ (has_value column ≡ true))
    by true y e f = inl (ltb-true 0 column.late e)
    by false true e f = inr (inl f)
    by false false e f = inr (inr (rw (e, f) at known))

begins_same : (job : Job) (m : Moment) (old new : Column) (start : ℕ) → IsSameSink old new
    → ColumnBeginsAt job m old start → ColumnBeginsAt job m new start
begins_same job m old new start same begins = rw (same.task, same.least, same.has_start) begins

pub passes_on : (job : Job) (ended : ℕ → Bool) (s : List (List ℤ)) (m : Moment) (g : List ℤ)
    (old new : Column) (step start : ℕ) (list : List ℤ)
    → ColumnStands job ended s m g old step start list → is_known old ≡ true → HasPassedLine old new
    → ColumnStands job ended s m g new (step + 1) start list
passes_on job ended s m g old new step start list stands known passed = record {
  least = passed.same.least ∙ stands.least ∙ ap (least_start job) (sym passed.same.task);
  begun = begins_same job m old new start passed.same stands.begun;
  late = (let was = stands.late in passed.late ∙ omega (arith, was));
  waits = passed.values ∙ waits (nat_lt 0 old.late) refl;
  far = λ stays. far (passed_left stays);
  counted = passed.count ∙ stands.counted;
  none = λ unknown. stands.none (sym passed.same.has_start ∙ unknown);
  all = λ stays. stands.all (passed_left stays);
  begins = λ more fed ready.
      subst (λ t. IsPrefix list (sink_list (started (with_samples more job) m) t))
      (sym passed.same.task) (stands.begins more fed ready);
  whole = λ left more fed ready.
      subst (λ t. (list ≡ sink_list (started (with_samples more job) m) t)
      × BeginsInTime (started (with_samples more job) m) t) (sym passed.same.task)
      (stands.whole (sym passed.same.has_left ∙ left) more fed ready);
}
  where
    passed_left : new.has_left ≡ false → old.has_left ≡ false
    passed_left stays = sym passed.same.has_left ∙ stays

    waits : (b : Bool) → nat_lt 0 old.late ≡ b
        → cond (nat_lt 0 old.late) old.values.items (drop 1 old.values.items)
        ≡ drop (step + 1 - start) list
    waits true e =
        let late = stands.late in
        let lt = ltb-true 0 old.late e in
        let same : step - start ≡ step + 1 - start = omega (arith, late, lt) in
        rw e (stands.waits ∙ ap (λ n. drop n list) same)
    waits false e =
        let late = stands.late in
        let le = ltb-false 0 old.late e in
        let same : suc (step - start) ≡ step + 1 - start = omega (arith, late, le) in
        rw e (ap (drop 1) stands.waits ∙ drop_one (step - start) list ∙ ap (λ n. drop n list) same)

    far : old.has_left ≡ false → step + 1 ≤ start + length list
    far stays = elim (known_so old known) [
      | inl later ↦ (let late = stands.late in omega (arith, late, later))
      | inr (inl left) ↦ absurd (let wrong : false ≡ true = sym stays ∙ left in cc)
      | inr (inr has) ↦
          let some : step - start < length list =
          some_dropped (step - start) list (ap (λ l. nat_lt 0 (length l)) (sym stands.waits) ∙ has) in
          let reach = stands.far stays in
          omega (arith, some, reach)
    ]

-- it ends behind the next line, where a value of it waits
ends_behind : (step start : ℕ) (list : List ℤ) → step - start < length list
    → step + 1 ≤ end_from start list
ends_behind step start [] lt = absurd (omega arith)
ends_behind step start (x ∷ xs) lt = omega arith

-- ---- all columns

pub all_known : (columns : List Column) (k : ℕ) (column : Column)
    → list_all is_known columns ≡ true → slice_get columns k ≡ Some column → is_known column ≡ true
all_known [] k column known got = absurd (cc)
all_known (c ∷ columns) k column known got =
    by (is_known c) refl k got (λ j. all_known columns j column)
  where
    by : (b : Bool) → is_known c ≡ b → (k : ℕ) → slice_get (c ∷ columns) k ≡ Some column
        → ((j : ℕ) → list_all is_known columns ≡ true → slice_get columns j ≡ Some column
        → is_known column ≡ true)
        → is_known column ≡ true
    by false e k got rec = let wrong : false ≡ true = rw e at known in absurd (cc)
    by true e zero got rec = sym (ap is_known (same_Some c column got)) ∙ e
    by true e (suc k) got rec = rec k (rw e at known) got

-- one of them has a value
record HasOne (columns : List Column) : Type 0 where
  pub place : ℕ
  pub column : Column
  pub there : slice_get columns place ≡ Some column
  pub has : has_value column ≡ true

one_has : (columns : List Column) → list_any has_value columns ≡ true → HasOne columns
one_has [] some = absurd (cc)
one_has (c ∷ columns) some = by (has_value c) refl (one_has columns)
  where
    by : (b : Bool) → has_value c ≡ b → (list_any has_value columns ≡ true → HasOne columns)
        → HasOne (c ∷ columns)
    by true e rec = record { place = 0; column = c; there = refl; has = e }
    by false e rec =
        let rest = rec (rw e at some) in
        record { place = suc rest.place; column = rest.column; there = rest.there; has = rest.has }

pub tasks_same : (Goes : Column → Column → Type 0) (old new : List Column)
    → ((before after : Column) → Goes before after → after.task ≡ before.task)
    → EachGoes Goes old new → map (λ column. column.task) new ≡ map (λ column. column.task) old
tasks_same Goes old new same each =
    same_lists (map (λ column. column.task) new) (map (λ column. column.task) old)
    (length-map new (λ column. column.task) ∙ each.many ∙ sym (length-map old (λ column. column.task)))
    (λ k d lt. at k d (let long = length-map new (λ column. column.task) in omega arith))
  where
    at : (k d : ℕ) → k < length new
        → get_or (map (λ column. column.task) new) k d ≡ get_or (map (λ column. column.task) old) k d
    at k d lt = by new old k lt (omega (arith, lt, each.many)) each.each
      where
        by : (new old : List Column) (k : ℕ) → k < length new → k < length old
            → ((k : ℕ) (before after : Column) → slice_get old k ≡ Some before
            → slice_get new k ≡ Some after → Goes before after)
            → get_or (map (λ column. column.task) new) k d
            ≡ get_or (map (λ column. column.task) old) k d
        by [] old k lt less goes = absurd (omega arith)
        by (c ∷ new) [] k lt less goes = absurd (omega arith)
        by (c ∷ new) (b ∷ old) zero lt less goes = same b c (goes 0 b c refl refl)
        by (c ∷ new) (b ∷ old) (suc k) lt less goes =
            by new old k (omega arith) (omega arith) (λ j. goes (suc j))

-- the one before
pub before_at : (old new : List Column) (k : ℕ) (after : Column) → length new ≡ length old
    → slice_get new k ≡ Some after → (before : Column) × (slice_get old k ≡ Some before)
before_at old new k after many got =
    let lt = slice_get_within new k after got in
    (get_or old k after, slice_get-get_or old k after (omega (arith, lt, many)))

-- the cells of the next line
cells_are : (job : Job) (ended : ℕ → Bool) (going : Bool) (s : List (List ℤ)) (m : Moment) (given : ℕ → List ℤ)
    (columns : List Column) (view : View) → Shows job ended going s m given columns view
    → cells_at job view view.step ≡ map next_cell columns
cells_are job ended going s m given columns view shows =
    let many = length (sinks_of job) in
    let f : ℕ → Option ℤ = λ k. value_from (view.starts k) (view.lists k) view.step in
    let long : length columns ≡ many =
    sym (length-map columns (λ column. column.task)) ∙ ap length shows.tasks in
    let count = length-map-range_with_len f 0 many in
    same_lists (map f (range_with_len 0 many)) (map next_cell columns)
    (count ∙ sym (length-map columns next_cell ∙ long))
    (λ k d lt. at k d (omega (arith, lt, count)))
  where
    at : (k : ℕ) (d : Option ℤ) → k < length (sinks_of job)
        → get_or (cells_at job view view.step) k d ≡ get_or (map next_cell columns) k d
    at k d lt =
        let it = column_at (sinks_of job) columns k shows.tasks lt in
        get_or-map-range_with_len (λ k. value_from (view.starts k) (view.lists k) view.step) 0
        (length (sinks_of job)) k k d lt (omega arith)
        ∙ sym (next_is job ended s m (given k) it.column view.step (view.starts k) (view.lists k)
        (shows.stand k it.column it.there))
        ∙ ap next_cell (sym (get_or_from_slice_get columns k it.column it.column it.there))
        ∙ sym (get_or-map next_cell columns k it.column d (slice_get_within columns k it.column it.there))

pub line_passes : (job : Job) (ended : ℕ → Bool) (going : Bool) (s : List (List ℤ)) (m : Moment) (given : ℕ → List ℤ)
    (old new : List Column) (view : View) → Shows job ended going s m given old view
    → list_any has_value old ≡ true → list_all is_known old ≡ true → EachGoes HasPassedLine old new
    → ShowsMore job ended going s m given view new (next_line old)
line_passes job ended going s m given old new view shows some known each = record {
  later = record view { step = view.step + 1 };
  shows = record {
    tasks = tasks_same HasPassedLine old new (λ before after passed. passed.same.task) each ∙ shows.tasks;
    stand = λ k after got.
        (let was = before_at old new k after each.many got in
        passes_on job ended s m (given k) was.0 after view.step (view.starts k) (view.lists k)
        (shows.stand k was.0 was.1) (all_known old k was.0 known was.1)
        (each.each k was.0 after was.1 got));
    last = λ more. last;
    left = λ goes k after got unknown.
        (let was = before_at old new k after each.many got in
        let same = (each.each k was.0 after was.1 got).same in
        same.has_left ∙ shows.left goes k was.0 was.1 (sym same.has_start ∙ unknown));
  };
  text = line_more job view
      ∙ ap (λ cells. table_text job view ++ line_of cells)
      (cells_are job ended going s m given old view shows);
}
  where
    last : HasLast job (record view { step = view.step + 1 })
    last =
        let one = one_has old some in
        let stands = shows.stand one.place one.column one.there in
        record {
          sink = one.place;
          there = (column_there job old one.place one.column shows.tasks one.there).0;
          last = ends_behind view.step (view.starts one.place) (view.lists one.place)
              (some_dropped (view.step - view.starts one.place) (view.lists one.place)
              (ap (λ l. nat_lt 0 (length l)) (sym stands.waits) ∙ one.has));
        }

-- behind the bytes that some lines made, these made more
pub shows_on : (job : Job) (ended : ℕ → Bool) (going : Bool) (s : List (List ℤ)) (m : Moment) (given : ℕ → List ℤ)
    (view : View) (one two : List Column) (bytes more : List ℕ)
    → (first : ShowsMore job ended going s m given view one bytes)
    → ShowsMore job ended going s m given first.later two more
    → ShowsMore job ended going s m given view two (bytes ++ more)
shows_on job ended going s m given view one two bytes more first next = record {
  later = next.later;
  shows = next.shows;
  text = next.text ∙ ap (λ l. l ++ more) first.text
      ∙ append_assoc (table_text job view) bytes more;
}

-- ---- writing

-- a line more is put
pub line_on : (job : Job) (ended : ℕ → Bool) (going : Bool) (s : List (List ℤ)) (m : Moment)
    (given : ℕ → List ℤ) (view : View) (old new : List Column) (sent text more : List ℕ)
    → ShowsMore job ended going s m given view old (sent ++ text) → has_line old ≡ true
    → EachGoes HasPassedLine old new → more ≡ text ++ next_line old
    → ShowsMore job ended going s m given view new (sent ++ more)
line_on job ended going s m given view old new sent text more first has each is =
    let both = and_parts (list_any has_value old) (list_all is_known old) has in
    subst (ShowsMore job ended going s m given view new)
    (append_assoc sent text (next_line old) ∙ ap (λ l. sent ++ l) (sym is))
    (shows_on job ended going s m given view old new (sent ++ text) (next_line old) first
    (line_passes job ended going s m given old new first.later first.shows both.0 both.1 each))

-- the text was sent
pub sent_on : (job : Job) (ended : ℕ → Bool) (going : Bool) (s : List (List ℤ)) (m : Moment)
    (given : ℕ → List ℤ) (view : View) (columns : List Column) (bytes : List ℕ)
    → ShowsMore job ended going s m given view columns bytes
    → ShowsMore job ended going s m given view columns (bytes ++ [])
sent_on job ended going s m given view columns bytes shows =
    subst (ShowsMore job ended going s m given view columns) (sym (append-nil bytes)) shows

-- nothing was put yet
pub shows_first : (job : Job) (ended : ℕ → Bool) (going : Bool) (s : List (List ℤ)) (m : Moment)
    (given : ℕ → List ℤ) (view : View) (columns : List Column)
    → Shows job ended going s m given columns view
    → ShowsMore job ended going s m given view columns []
shows_first job ended going s m given view columns shows = record {
  later = view;
  shows = shows;
  text = sym (append-nil (table_text job view));
}

-- behind what was written, a part of a text
pub part_behind : (old now next : Option (List ℕ)) (sent text : List ℕ) → Appends old now sent
    → AppendsPrefix now next text → AppendsPrefix old next (sent ++ text)
part_behind old now next sent text first part = (
  sent ++ part.0,
  part.1,
  ap (λ l. sent ++ l) part.2 ∙ sym (append_assoc sent part.0 part.1),
  Appends-trans old now next sent part.0 first part.3,
)

-- nothing of it
pub none_behind : (old now : Option (List ℕ)) (sent text : List ℕ) → Appends old now sent
    → AppendsPrefix old now (sent ++ text)
none_behind old now sent text first = (sent, text, refl, first)
