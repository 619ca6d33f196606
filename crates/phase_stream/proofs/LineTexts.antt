-- The lines of a table are those that its cells say.
use Rattle.std.proofs.Common.{◌≡◌, ◌<◌, ◌≤◌, ◌+◌, ◌-◌, ◌++◌, ◌==◌, ℕ, ℤ, zero, suc, Bool, List, [], ◌∷◌, Option, Some, None, length, get_or, map, refl, sym, ap, ◌∙◌, arith, append_assoc}
use Rattle.std.proofs.lemmas.List.{get_or-map, length-map}
use Rattle.std.proofs.lemmas.List.Concat.{flat_map-append}
use Rattle.std.proofs.lemmas.List.FromFn.{get_or-map-range_with_len, length-map-range_with_len}
use Rattle.std.specs.Prelude.{codes, max}
use Rattle.std.specs.List.{flat_map, fold, range_with_len}
use mathlib.Core.List.{IsPrefix}
use Rattle.graph_commands.specs.ColumnTexts.{SinkValues, cell, comma_before, end_at, end_from, row_text, rows_of, value_cell, value_from}
use Rattle.graph_commands.proofs.Below.{range-parts, below-more}
use Rattle.stream_lists.specs.Jobs.{Job}
use Rattle.stream_lists.specs.Lists.{lines_of, numbers_of, sink_over, sinks_of}
use Rattle.stream_lists.specs.Spans.{schedule_of, span_in}
use Rattle.phase_stream.specs.Sessions.{sink_list}
use Rattle.phase_stream.specs.TableLines.{View, cells_at, line_of, names_line, table_text}
use Rattle.phase_stream.specs.Tables.{table_of}

-- ---- lists of texts

-- the texts of the first numbers, and of those behind them
below_rest : (f : ℕ → List ℕ) (k n : ℕ) → k ≤ n
    → flat_map f (range_with_len 0 n)
    ≡ flat_map f (range_with_len 0 k) ++ flat_map f (range_with_len k (n - k))
below_rest f k n le =
    let parts : n ≡ k + (n - k) = omega arith in
    let at : 0 + k ≡ k = omega arith in
    ap (λ m. flat_map f (range_with_len 0 m)) parts
    ∙ (ap (flat_map f) (range-parts 0 k (n - k)
    ∙ ap (λ b. range_with_len 0 k ++ range_with_len b (n - k)) at)
    ∙ flat_map-append f (range_with_len 0 k) (range_with_len k (n - k)))

flat_map-same : (f g : ℕ → List ℕ) (a n : ℕ) → ((t : ℕ) → t < a + n → f t ≡ g t)
    → flat_map f (range_with_len a n) ≡ flat_map g (range_with_len a n)
flat_map-same f g a zero same = refl
flat_map-same f g a (suc n) same =
    ap (λ l. l ++ flat_map f (range_with_len (a + 1) n)) (same a (omega arith))
    ∙ ap (λ l. g a ++ l) (flat_map-same f g (a + 1) n (λ t less. same t (omega arith)))

-- one cell more is put
pub cells_more : (head text mid now : List ℕ) (f : ℕ → List ℕ) (k : ℕ) (a b : List ℕ)
    → text ≡ head ++ flat_map f (range_with_len 0 k) → mid ≡ text ++ a → now ≡ mid ++ b
    → a ++ b ≡ f k → now ≡ head ++ flat_map f (range_with_len 0 (k + 1))
cells_more head text mid now f k a b before first next is =
    next ∙ ap (λ l. l ++ b) first ∙ append_assoc text a b ∙ ap (λ l. text ++ l) is
    ∙ ap (λ l. l ++ f k) before ∙ append_assoc head (flat_map f (range_with_len 0 k)) (f k)
    ∙ ap (λ l. head ++ l) (sym (below-more f k))

-- the number of a sink among the lines of a job, and its values
sink_line_at : (job : Job) (k : ℕ) → k < length (sinks_of job)
    → get_or (lines_of job) k (0, [])
    ≡ (get_or (sinks_of job) k 0, sink_list job (get_or (sinks_of job) k 0))
sink_line_at job k lt =
    get_or-map (sink_over job (schedule_of job) (numbers_of job)) (sinks_of job) k 0 (0, []) lt

-- a line of these cells, by their number
by_cells : (f : ℕ → Option ℤ) (n : ℕ) → line_of (map f (range_with_len 0 n))
    ≡ flat_map (λ k. comma_before k ++ value_cell (n == 1) (f k)) (range_with_len 0 n) ++ codes "\n"
by_cells f n =
    let cells = map f (range_with_len 0 n) in
    ap (λ m. flat_map (λ k. comma_before k ++ value_cell (m == 1) (get_or cells k None))
    (range_with_len 0 m) ++ codes "\n") (length-map-range_with_len f 0 n)
    ∙ ap (λ l. l ++ codes "\n")
    (flat_map-same (λ k. comma_before k ++ value_cell (n == 1) (get_or cells k None))
    (λ k. comma_before k ++ value_cell (n == 1) (f k)) 0 n
    (λ k less. ap (λ o. comma_before k ++ value_cell (n == 1) o)
    (get_or-map-range_with_len f 0 n k k None (omega arith) (omega arith))))

-- the line of a step, by what stands in it
row_by : (job : Job) (sinks : List SinkValues) (step : Option ℕ) (n : ℕ) (text : Bool → ℕ → List ℕ)
    → length sinks ≡ n
    → ((k : ℕ) → k < n → cell job (n == 1) step (get_or sinks k (0, [])) ≡ text (n == 1) k)
    → row_text job sinks step
    ≡ flat_map (λ k. comma_before k ++ text (n == 1) k) (range_with_len 0 n) ++ codes "\n"
row_by job sinks step n text long same =
    ap (λ m. flat_map (λ k. comma_before k ++ cell job (m == 1) step (get_or sinks k (0, [])))
    (range_with_len 0 m) ++ codes "\n") long
    ∙ ap (λ l. l ++ codes "\n")
    (flat_map-same (λ k. comma_before k ++ cell job (n == 1) step (get_or sinks k (0, [])))
    (λ k. comma_before k ++ text (n == 1) k) 0 n
    (λ k less. ap (λ l. comma_before k ++ l) (same k (omega arith))))

-- the table has these cells at a step
abbrev pub HasCells : Job → View → ℕ → Type 0
HasCells job view n = (k : ℕ) → k < length (sinks_of job)
    → let t = get_or (sinks_of job) k 0 in
    value_from (span_in job t).offset (sink_list job t) n
    ≡ value_from (view.starts k) (view.lists k) n

pub row_is : (job : Job) (view : View) (n : ℕ) → HasCells job view n
    → row_text job (lines_of job) (Some n) ≡ line_of (cells_at job view n)
row_is job view n has =
    let many = length (sinks_of job) in
    let f : ℕ → Option ℤ = λ k. value_from (view.starts k) (view.lists k) n in
    row_by job (lines_of job) (Some n) many (λ alone k. value_cell alone (f k))
    (length-map (sinks_of job) (sink_over job (schedule_of job) (numbers_of job)))
    (λ k lt. ap (cell job (many == 1) (Some n)) (sink_line_at job k lt)
    ∙ ap (value_cell (many == 1)) (has k lt))
    ∙ sym (by_cells f many)

-- the names
pub bare_line_at : (job : Job) (k : ℕ) → k < length (sinks_of job)
    → get_or (map {B = SinkValues} (λ t. (t, [])) (sinks_of job)) k (0, [])
    ≡ (get_or (sinks_of job) k 0, [])
bare_line_at job k lt = get_or-map (λ t. (t, [])) (sinks_of job) k 0 (0, []) lt

pub names_are : (job : Job) → row_text job (lines_of job) None ≡ names_line job
names_are job =
    let many = length (sinks_of job) in
    let bare : List SinkValues = map (λ t. (t, [])) (sinks_of job) in
    let text : Bool → ℕ → List ℕ = λ alone k. cell job alone None (get_or bare k (0, [])) in
    row_by job (lines_of job) None many text
    (length-map (sinks_of job) (sink_over job (schedule_of job) (numbers_of job)))
    (λ k lt. ap (cell job (many == 1) None) (sink_line_at job k lt)
    ∙ sym (ap (cell job (many == 1) None) (bare_line_at job k lt)))
    ∙ sym (row_by job bare None many text (length-map (sinks_of job) (λ t. (t, []))) (λ k lt. refl))

-- the text of so many lines
pub text_is : (job : Job) (view : View) → ((n : ℕ) → n < view.step → HasCells job view n)
    → table_text job view
    ≡ row_text job (lines_of job) None
    ++ flat_map (λ n. row_text job (lines_of job) (Some n)) (range_with_len 0 view.step)
text_is job view has =
    ap (λ l. l ++ flat_map (λ n. line_of (cells_at job view n)) (range_with_len 0 view.step))
    (sym (names_are job))
    ∙ ap (λ l. row_text job (lines_of job) None ++ l)
    (sym (flat_map-same (λ n. row_text job (lines_of job) (Some n))
    (λ n. line_of (cells_at job view n)) 0 view.step
    (λ n less. row_is job view n (has n (omega arith)))))

-- where two views have the same cells, they have the same text
pub same_text : (job : Job) (one other : View) → one.step ≡ other.step
    → ((n : ℕ) → n < other.step → cells_at job one n ≡ cells_at job other n)
    → table_text job one ≡ table_text job other
same_text job one other step same =
    ap (λ s. names_line job ++ flat_map (λ n. line_of (cells_at job one n)) (range_with_len 0 s)) step
    ∙ ap (λ l. names_line job ++ l)
    (flat_map-same (λ n. line_of (cells_at job one n)) (λ n. line_of (cells_at job other n)) 0
    other.step (λ n less. ap line_of (same n (omega arith))))

-- one line more
pub line_more : (job : Job) (view : View)
    → table_text job (record view { step = view.step + 1 })
    ≡ table_text job view ++ line_of (cells_at job view view.step)
line_more job view =
    let row : ℕ → List ℕ = λ n. line_of (cells_at job view n) in
    ap (λ l. names_line job ++ l) (below-more row view.step)
    ∙ sym (append_assoc (names_line job) (flat_map row (range_with_len 0 view.step)) (row view.step))

-- ---- how many lines

greatest_from : (xs : List ℕ) (n : ℕ) → n ≤ fold max n xs
greatest_from [] n = omega arith
greatest_from (x ∷ xs) n = let rest = greatest_from xs (max n x) in omega arith

greatest_at : (xs : List ℕ) (n k : ℕ) → k < length xs → get_or xs k 0 ≤ fold max n xs
greatest_at [] n k lt = absurd (omega arith)
greatest_at (x ∷ xs) n zero lt = let rest = greatest_from xs (max n x) in omega arith
greatest_at (x ∷ xs) n (suc k) lt = greatest_at xs (max n x) k (omega arith)

greatest_under : (xs : List ℕ) (n bound : ℕ) → n ≤ bound
    → ((k : ℕ) → k < length xs → get_or xs k 0 ≤ bound) → fold max n xs ≤ bound
greatest_under [] n bound le each = le
greatest_under (x ∷ xs) n bound le each =
    let first : x ≤ bound = each 0 (omega arith) in
    greatest_under xs (max n x) bound (omega arith) (λ k lt. each (suc k) (omega arith))

end_is : (job : Job) (k : ℕ) → k < length (sinks_of job)
    → get_or (map (end_at job) (lines_of job)) k 0
    ≡ end_from (span_in job (get_or (sinks_of job) k 0)).offset
    (sink_list job (get_or (sinks_of job) k 0))
end_is job k lt =
    let long = length-map (sinks_of job) (sink_over job (schedule_of job) (numbers_of job)) in
    get_or-map (end_at job) (lines_of job) k (0, []) 0 (omega arith)
    ∙ ap (end_at job) (sink_line_at job k lt)

ends_many : (job : Job) → length (map (end_at job) (lines_of job)) ≡ length (sinks_of job)
ends_many job = length-map (lines_of job) (end_at job)
    ∙ length-map (sinks_of job) (sink_over job (schedule_of job) (numbers_of job))

pub rows_at_least : (job : Job) (k n : ℕ) → k < length (sinks_of job)
    → n ≤ end_from (span_in job (get_or (sinks_of job) k 0)).offset
    (sink_list job (get_or (sinks_of job) k 0))
    → n ≤ rows_of job (lines_of job)
rows_at_least job k n lt le =
    let long = ends_many job in
    let one = greatest_at (map (end_at job) (lines_of job)) 0 k (omega arith) in
    let is = end_is job k lt in
    omega arith

pub rows_at_most : (job : Job) (n : ℕ)
    → ((k : ℕ) → k < length (sinks_of job)
    → end_from (span_in job (get_or (sinks_of job) k 0)).offset
    (sink_list job (get_or (sinks_of job) k 0)) ≤ n)
    → rows_of job (lines_of job) ≤ n
rows_at_most job n each =
    let long = ends_many job in
    greatest_under (map (end_at job) (lines_of job)) 0 n (omega arith)
    (λ k lt. (let is = end_is job k (omega arith) in
    let le = each k (omega arith) in
    omega arith))

-- ---- the whole

front_of : (f : ℕ → List ℕ) (k n : ℕ) → k ≤ n
    → (more : List ℕ) × (flat_map f (range_with_len 0 k) ++ more ≡ flat_map f (range_with_len 0 n))
front_of f k n le =
    (flat_map f (range_with_len k (n - k)), sym (below_rest f k n le))

-- a part of the lines
pub begins_table : (job : Job) (view : View) → ((n : ℕ) → n < view.step → HasCells job view n)
    → view.step ≤ rows_of job (lines_of job) → IsPrefix (table_text job view) (table_of job)
begins_table job view has le =
    let row : ℕ → List ℕ = λ n. row_text job (lines_of job) (Some n) in
    let head = row_text job (lines_of job) None in
    let rows = rows_of job (lines_of job) in
    let parts = front_of row view.step rows le in (
      parts.0,
      ap (λ l. l ++ parts.0) (text_is job view has)
          ∙ append_assoc head (flat_map row (range_with_len 0 view.step)) parts.0
          ∙ ap (λ l. head ++ l) parts.1,
    )

-- all of them
pub is_table : (job : Job) (view : View) → ((n : ℕ) → n < view.step → HasCells job view n)
    → view.step ≡ rows_of job (lines_of job) → table_of job ≡ table_text job view
is_table job view has is =
    ap (λ n. row_text job (lines_of job) None
    ++ flat_map (λ k. row_text job (lines_of job) (Some k)) (range_with_len 0 n)) (sym is)
    ∙ sym (text_is job view has)
