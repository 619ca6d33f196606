-- What is made on a phaser, and what the sinks take, over lists that agree where they are read.
use Rattle.std.proofs.Common.{◌≡◌, ◌⊎◌, inl, inr, ℕ, zero, suc, ◌+◌, ◌-◌, ◌==◌, ◌<◌, ◌≤◌, List, [], ◌∷◌, ◌++◌, ℤ, length, map, get_or, take, drop, Bool, true, false, Some, None, refl, sym, ap, ◌∙◌, arith}
use Rattle.std.specs.Prelude.{Option, ◌&&◌, ◌||◌, is_some, if◌then◌else◌}
use Rattle.std.specs.List.{range_with_len, list_any, filter, position_from}
use Rattle.std.specs.Option.{option_map}
use Rattle.std.proofs.lemmas.Bool.{cases_lt}
use Rattle.std.proofs.lemmas.Bool.Decides.{nat_tests}
use Rattle.std.proofs.lemmas.List.{get_or_append_left, get_or_push, length_push}
use Rattle.std.proofs.lemmas.List.Folds.{list_any_at}
use Rattle.std.proofs.lemmas.List.FromFn.{length-range_with_len, get_or-range_with_len}
use Rattle.graph_base.specs.Graphs.{task_at, phaser_at}
use Rattle.stream_lists.specs.Jobs.{Job, samples_at, index_in}
use Rattle.stream_lists.specs.Spans.{nowhere, signalled_by, takes_from, Schedule, schedule_of}
use Rattle.stream_lists.specs.Lists.{is_sink_at, list_over, contribution_at, contribution_by, contributions_on, number, numbers_up_to, output_list, output_on, phase_in, sink_over, sinks_of, taken_by, taken_from, value_by}
use Rattle.stream_lists.specs.Ranges.{Where, fault_over, first_fault, first_some, list_fault, output_fault, output_fault_of, output_faults, phase_fault_of}
use Rattle.stream_lists.specs.declared.span.Span.{Span}
use Rattle.stream_lists.proofs.Firsts.{fold-range_more, range_next}
use Rattle.stream_lists.proofs.Growing.{filter_map-same, length-grown, map-same}
use Rattle.stream_eval.specs.Composing.{is_read_from, list_kept, reads_from, signals_from, signals_on, sinks_on, waits_on}
use Rattle.graph_base.specs.declared.place.Place.TheVariants as place

-- lists that are the same where they are read from phaser p on
abbrev pub AgreeFrom : Job → ℕ → List (List ℤ) → List (List ℤ) → Type 0
AgreeFrom job p xs ys = (q : ℕ) → is_read_from job p q ≡ true → get_or xs q [] ≡ get_or ys q []

-- ---- which lists are read

any-at : (test : ℕ → Bool) (a n k : ℕ) → a ≤ k → k < a + n → test k ≡ true
    → list_any test (range_with_len a n) ≡ true
any-at test a n k low high e =
    let same : a + (k - a) ≡ k = omega arith in
    let within : k - a < length (range_with_len a n) = omega (arith, length-range_with_len a n) in
    let entry = get_or-range_with_len a n (k - a) 0 (omega arith) ∙ same in
    list_any_at test (range_with_len a n) (k - a) 0 within (ap test entry ∙ e)

-- a test passes wherever another does
any-more : (test other : ℕ → Bool) (xs : List ℕ) → ((x : ℕ) → test x ≡ true → other x ≡ true)
    → list_any test xs ≡ true → list_any other xs ≡ true
any-more test other [] more e = e
any-more test other (x ∷ xs) more e =
    by (test x) (other x) (more x) (λ rest. any-more test other xs more rest) e
  where
    by : (a b : Bool) → (a ≡ true → b ≡ true)
        → (list_any test xs ≡ true → list_any other xs ≡ true) → (a || list_any test xs) ≡ true
        → (b || list_any other xs) ≡ true
    by true b first rest e = rw (first refl) refl
    by false true first rest e = refl
    by false false first rest e = rest e

-- one that is there has a place
placed : (xs : List ℕ) (n k : ℕ) → k < length xs
    → is_some (position_from (λ q. q == get_or xs k 0) n xs) ≡ true
placed [] n k lt = absurd (omega arith)
placed (x ∷ xs) n zero lt = let same : (x == x) ≡ true = grind (arith, nat_tests) in rw same refl
placed (x ∷ xs) n (suc k) lt = by (x == get_or xs k 0) (placed xs (n + 1) k (omega (arith, lt)))
  where
    by : (b : Bool) → is_some (position_from (λ q. q == get_or xs k 0) (n + 1) xs) ≡ true
        → is_some (if b then Some n else position_from (λ q. q == get_or xs k 0) (n + 1) xs) ≡ true
    by true e = refl
    by false e = e

-- a task that signals phaser p reads each of its inputs
reads-input : (job : Job) (p t j k : ℕ) → t < length job.graph.tasks → p < length job.graph.phasers
    → index_in (signalled_by (task_at job.graph t)) p ≡ Some j
    → k < length (task_at job.graph t).inputs
    → is_read_from job p (get_or (task_at job.graph t).inputs k 0) ≡ true
reads-input job p t j k there below at within =
    any-at (reads_from job p q) 0 (length job.graph.tasks) t (omega arith) (omega (arith, there)) reads
  where
    q : ℕ
    q = get_or (task_at job.graph t).inputs k 0

    signals : signals_from job p t ≡ true
    signals = any-at (signals_on job t) p (length job.graph.phasers - p) p (omega arith)
        (omega (arith, below)) (ap is_some at)

    or_true : (b : Bool) → (b || true) ≡ true
    or_true true = refl
    or_true false = refl

    reads : reads_from job p q t ≡ true
    reads = rw (placed (task_at job.graph t).inputs 0 k within, signals) (or_true (sinks_on job t q))

-- and a sink reads its input
reads-sink : (job : Job) (p t : ℕ) → t < length job.graph.tasks → is_sink_at job t ≡ true
    → is_read_from job p (get_or (task_at job.graph t).inputs 0 0) ≡ true
reads-sink job p t there sink =
    let q = get_or (task_at job.graph t).inputs 0 0 in
    let same : (q == q) ≡ true = grind (arith, nat_tests) in
    let sinks : sinks_on job t q ≡ true = rw (sink, same) refl in
    any-at (reads_from job p q) 0 (length job.graph.tasks) t (omega arith) (omega (arith, there))
    (ap (λ b. b || (waits_on job t q && signals_from job p t)) sinks)

-- what is read from the next phaser on is read from this one on
read-before : (job : Job) (p q : ℕ) → p < length job.graph.phasers → is_read_from job (p + 1) q ≡ true
    → is_read_from job p q ≡ true
read-before job p q below e =
    any-more (reads_from job (p + 1) q) (reads_from job p q)
    (range_with_len 0 (length job.graph.tasks)) each e
  where
    from : (t : ℕ) → signals_from job (p + 1) t ≡ true → signals_from job p t ≡ true
    from t e = ap (list_any (signals_on job t)) (range_next p (length job.graph.phasers) below)
        ∙ or_later (signals_on job t p) e
      where
        or_later : (b : Bool) → signals_from job (p + 1) t ≡ true
            → (b || signals_from job (p + 1) t) ≡ true
        or_later true e = refl
        or_later false e = e

    both : (s w later now : Bool) → (later ≡ true → now ≡ true) → (s || (w && later)) ≡ true
        → (s || (w && now)) ≡ true
    both true w later now more e = refl
    both false true later now more e = more e
    both false false later now more e = e

    each : (t : ℕ) → reads_from job (p + 1) q t ≡ true → reads_from job p q t ≡ true
    each t e = both (sinks_on job t q) (waits_on job t q) (signals_from job (p + 1) t)
        (signals_from job p t) (from t) e

-- ---- what is made on phaser p

taken-same : (job : Job) (p t j : ℕ) (span : Span) (xs ys : List (List ℤ)) → AgreeFrom job p xs ys
    → t < length job.graph.tasks → p < length job.graph.phasers
    → index_in (signalled_by (task_at job.graph t)) p ≡ Some j
    → taken_by xs (task_at job.graph t) span ≡ taken_by ys (task_at job.graph t) span
taken-same job p t j span xs ys agree there below at =
    let task = task_at job.graph t in
    map-same (taken_from xs task span) (taken_from ys task span) 0 (length task.inputs)
    (λ k lt. ap (λ list. take (takes_from task span.steps k) (drop span.offset list))
    (agree (get_or task.inputs k 0) (reads-input job p t j k there below at (omega (arith, lt)))))

output-same : (job : Job) (schedule : Schedule) (p t j : ℕ) (xs ys : List (List ℤ))
    → AgreeFrom job p xs ys → t < length job.graph.tasks → p < length job.graph.phasers
    → index_in (signalled_by (task_at job.graph t)) p ≡ Some j
    → output_on job schedule xs t j ≡ output_on job schedule ys t j
output-same job schedule p t j xs ys agree there below at =
    let span = get_or schedule.spans t nowhere in
    ap (λ taken. output_list (samples_at job t) taken (task_at job.graph t) span.steps j)
    (taken-same job p t j span xs ys agree there below at)

members-same : (job : Job) (schedule : Schedule) (p : ℕ) (xs ys : List (List ℤ))
    → AgreeFrom job p xs ys → p < length job.graph.phasers
    → contributions_on job schedule xs p ≡ contributions_on job schedule ys p
members-same job schedule p xs ys agree below =
    filter_map-same (contribution_at job schedule xs p) (contribution_at job schedule ys p) 0
    (length job.graph.tasks)
    (λ t lt. by t (omega (arith, lt)) (index_in (signalled_by (task_at job.graph t)) p) refl)
  where
    by : (t : ℕ) → t < length job.graph.tasks → (at : Option ℕ)
        → index_in (signalled_by (task_at job.graph t)) p ≡ at
        → contribution_by job schedule xs t at ≡ contribution_by job schedule ys t at
    by t there None at = refl
    by t there (Some j) at =
        let span = get_or schedule.spans t nowhere in
        ap (λ (list : List ℤ). if span.live then Some (span.offset, list) else None)
        (output-same job schedule p t j xs ys agree there below at)

faults-same : (job : Job) (schedule : Schedule) (p : ℕ) (xs ys : List (List ℤ))
    → AgreeFrom job p xs ys → p < length job.graph.phasers
    → output_faults job schedule xs p ≡ output_faults job schedule ys p
faults-same job schedule p xs ys agree below =
    map-same (output_fault_of job schedule xs p) (output_fault_of job schedule ys p) 0
    (length job.graph.tasks)
    (λ t lt. ap (option_map (λ step. (place.Task t, step)))
    (by t (omega (arith, lt)) (index_in (signalled_by (task_at job.graph t)) p) refl))
  where
    by : (t : ℕ) → t < length job.graph.tasks → (at : Option ℕ)
        → index_in (signalled_by (task_at job.graph t)) p ≡ at
        → output_fault job schedule xs t at ≡ output_fault job schedule ys t at
    by t there None at = refl
    by t there (Some j) at =
        ap (λ (list : List ℤ). if (get_or schedule.spans t nowhere).live
        then list_fault (task_at job.graph t).kind j list else None)
        (output-same job schedule p t j xs ys agree there below at)

-- the list of phaser p
pub list_over-same : (job : Job) (schedule : Schedule) (p : ℕ)
    (xs ys : List (List ℤ)) → AgreeFrom job p xs ys → p < length job.graph.phasers
    → list_over job schedule xs p ≡ list_over job schedule ys p
list_over-same job schedule p xs ys agree below =
    ap (λ members. map (phase_in (value_by (phaser_at job.graph p).op) job p members)
    (range_with_len 0 (get_or schedule.lengths p 0)))
    (members-same job schedule p xs ys agree below)

-- and the first value out of range on it
pub fault_over-same : (job : Job) (schedule : Schedule) (p : ℕ)
    (xs ys : List (List ℤ)) → AgreeFrom job p xs ys → p < length job.graph.phasers
    → fault_over job schedule xs p ≡ fault_over job schedule ys p
fault_over-same job schedule p xs ys agree below =
    ap (λ (faults : List (Option Where)). first_some (faults ++ phase_fault_of job schedule xs p
    ∷ []))
    (faults-same job schedule p xs ys agree below)
    ∙ ap (λ members. first_some (output_faults job schedule ys p
    ++ option_map (λ n. (place.Phaser p, n)) (first_fault (value_by (phaser_at job.graph p).op) job
    schedule members p (get_or schedule.lengths p 0)) ∷ []))
    (members-same job schedule p xs ys agree below)

-- ---- the lists that are kept

-- they agree where they are read
pub kept-agree : (job : Job) (p : ℕ) (lists above : List (List ℤ))
    → ((q : ℕ) → get_or lists q [] ≡ list_kept job p above q) → AgreeFrom job p lists above
kept-agree job p lists above kept q read =
    kept q ∙ ap (λ b. if b then get_or above q [] else []) read

-- one more list
pub kept-push : (job : Job) (p : ℕ) (lists above : List (List ℤ)) (list : List ℤ)
    → length lists ≡ p → length above ≡ p → p < length job.graph.phasers
    → AgreeFrom job p lists above → (q : ℕ)
    → list_kept job (p + 1) (lists ++ list ∷ []) q ≡ list_kept job (p + 1) (above ++ list ∷ []) q
kept-push job p lists above list long high below agree q = by (is_read_from job (p + 1) q) refl
  where
    past : (xs : List (List ℤ)) → length xs ≡ p → p < q → get_or (xs ++ list ∷ []) q [] ≡ []
    past xs count beyond = ended (xs ++ list ∷ []) q (omega (arith, length_push xs list, count, beyond))
      where
        ended : (zs : List (List ℤ)) (k : ℕ) → length zs ≤ k → get_or zs k [] ≡ []
        ended [] k le = refl
        ended (z ∷ zs) zero le = absurd (omega (arith, le))
        ended (z ∷ zs) (suc k) le = ended zs k (omega (arith, le))

    behind : is_read_from job (p + 1) q ≡ true → (q < p + 1) ⊎ (p + 1 ≤ q) → (q < p) ⊎ (p ≤ q)
        → get_or (lists ++ list ∷ []) q [] ≡ get_or (above ++ list ∷ []) q []
    behind read any (inl less) =
        get_or_append_left lists (list ∷ []) [] q (omega (arith, less, long))
        ∙ (agree q (read-before job p q below read)
        ∙ sym (get_or_append_left above (list ∷ []) [] q (omega (arith, less, high))))
    behind read (inl within) (inr least) =
        get_or_push lists list [] q (omega (arith, within, least, long))
        ∙ sym (get_or_push above list [] q (omega (arith, within, least, high)))
    behind read (inr beyond) (inr least) =
        past lists long (omega (arith, beyond)) ∙ sym (past above high (omega (arith, beyond)))

    by : (b : Bool) → is_read_from job (p + 1) q ≡ b
        → (if b then get_or (lists ++ list ∷ []) q [] else [])
        ≡ (if b then get_or (above ++ list ∷ []) q [] else [])
    by true read = behind read (cases_lt q (p + 1)) (cases_lt q p)
    by false unread = refl

-- the next list, after which those are dropped that are no more read
pub kept-next : (job : Job) (p : ℕ) (lists next : List (List ℤ)) (list : List ℤ)
    → AgreeFrom job p lists (numbers_up_to job (schedule_of job) p)
    → length lists ≡ p → p < length job.graph.phasers
    → list ≡ map number (list_over job (schedule_of job) lists p)
    → ((q : ℕ) → get_or next q [] ≡ list_kept job (p + 1) (lists ++ list ∷ []) q)
    → (q : ℕ) → get_or next q []
    ≡ list_kept job (p + 1) (numbers_up_to job (schedule_of job) (p + 1)) q
kept-next job p lists next list agree long below is each q =
    each q
    ∙ (kept-push job p lists above list long high below agree q
    ∙ ap (λ xs. list_kept job (p + 1) xs q) (sym whole))
  where
    made : List (List ℤ) → ℕ → List ℤ
    made xs r = map number (list_over job (schedule_of job) xs r)

    above : List (List ℤ)
    above = numbers_up_to job (schedule_of job) p

    high : length above ≡ p
    high = length-grown made p

    same : list ≡ made above p
    same = is ∙ ap (map number)
        (list_over-same job (schedule_of job) p lists above agree below)

    whole : numbers_up_to job (schedule_of job) (p + 1) ≡ above ++ list ∷ []
    whole = fold-range_more (λ xs r. xs ++ made xs r ∷ []) [] p
        ∙ ap (λ xs. above ++ xs ∷ []) (sym same)

-- ---- the sinks

map-filter-same : {Y : Type 0} (test : ℕ → Bool) (f g : ℕ → Y) (a n : ℕ)
    → ((t : ℕ) → t < a + n → test t ≡ true → f t ≡ g t)
    → map f (filter test (range_with_len a n)) ≡ map g (filter test (range_with_len a n))
map-filter-same test f g a zero same = refl
map-filter-same test f g a (suc n) same =
    by (test a) refl (map-filter-same test f g (a + 1) n (λ t lt e. same t (omega (arith, lt)) e))
  where
    by : (b : Bool) → test a ≡ b
        → map f (filter test (range_with_len (a + 1) n))
        ≡ map g (filter test (range_with_len (a + 1) n))
        → map f (filter test (range_with_len a (suc n)))
        ≡ map g (filter test (range_with_len a (suc n)))
    by true e rest = rw e (ap (λ y. y ∷ map f (filter test (range_with_len (a + 1) n)))
        (same a (omega arith) e) ∙ ap (λ ys. g a ∷ ys) rest)
    by false e rest = rw e rest

-- what they take is the same
pub sinks-same : (job : Job) (schedule : Schedule) (p : ℕ) (xs ys : List (List ℤ))
    → AgreeFrom job p xs ys
    → map (sink_over job schedule xs) (sinks_of job)
    ≡ map (sink_over job schedule ys) (sinks_of job)
sinks-same job schedule p xs ys agree =
    map-filter-same (is_sink_at job) (sink_over job schedule xs) (sink_over job schedule ys) 0
    (length job.graph.tasks)
    (λ t lt sink. (let task = task_at job.graph t in
    let span = get_or schedule.spans t nowhere in
    ap (λ list. (t, take (takes_from task span.steps 0) (drop span.offset list)))
    (agree (get_or task.inputs 0 0) (reads-sink job p t (omega (arith, lt)) sink))))
