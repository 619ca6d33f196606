-- Where a job fits, its lists are those over whole numbers of any size, as far as they are taken.
use Rattle.std.proofs.Common.{◌≡◌, ◌≢◌, ℕ, zero, suc, ◌+◌, ◌<◌, ◌≤◌, Bool, true, false, List, [], ◌∷◌, ◌++◌, Some, None, ℤ, pos, length, map, get_or, take, drop, refl, sym, ap, subst, ◌∙◌, arith, not, cond, eqb}
use Rattle.std.specs.Prelude.{Option, nat_le, unsigned_abs}
use Rattle.std.specs.List.{range_with_len, filter, list_any, position_from}
use Rattle.std.proofs.lemmas.Bool.{eq-eqb, eqb-true, and_parts}
use Rattle.std.proofs.lemmas.List.{get_or-map}
use Rattle.std.proofs.lemmas.List.FromFn.{length-map-range_with_len, get_or-map-range_with_len}
use Rattle.phase_accum.specs.declared.outcome.Outcome.TheVariants.{Value, Empty, TooBig}
use Rattle.phase_accum.specs.declared.single.Single.{Single}
use Rattle.phase_accum.specs.Values.{applied, ranged, sum_of, product_of, value_max}
use Rattle.graph_base.specs.Graphs.{Task, task_at, phaser_at}
use Rattle.graph_base.specs.TaskLines.{IsGraph, IsTaskLine, HasEnds}
use Rattle.phase_base.specs.Lists.{is_distinct}
use Rattle.phase_base.specs.declared.operation.Op.{Op}
use Rattle.phase_base.specs.declared.operation.Op.TheVariants.{Sum, Product, Least, Greatest, Any}
use Rattle.graph_base.specs.declared.line.Kind.{Kind}
use Rattle.graph_base.specs.declared.line.Kind.TheVariants.{Sink}
use Rattle.stream_lists.specs.Jobs.{Job, samples_at, start_at, index_in}
use Rattle.stream_lists.specs.Spans.{signalled_by, takes_from, offset_of, span_at, spans_of, lengths_of, span_in, schedule_of}
use Rattle.stream_lists.specs.Lists.{entry, taken_from, output_on, contribution_at, contribution_by, contributions_on, sends_in, value_by, number, phase_in, list_over, list_of_phaser, numbers_of, is_sink_at, sink_over, lines_of}
use Rattle.stream_lists.specs.Ranges.{Fits}
use Rattle.stream_lists.specs.Entries.{Takes, AreInRange}
use Rattle.stream_lists.specs.Exact.{exact_by, exact_single, exact_in, exact_over, exact_lists, exact_lines}
use Rattle.stream_lists.specs.declared.span.Span.{Span}
use Rattle.stream_lists.proofs.Growing.{grown-whole, filter_map-same}
use Rattle.stream_lists.proofs.Ordered.{looked_above, any_front}
use Rattle.stream_lists.proofs.SpansAbove.{spans_all}
use Rattle.stream_lists.proofs.ListsAbove.{output_by_taken, same_members, lists_above, numbers_all}
use Rattle.stream_lists.proofs.ListLengths.{length-numbers}
use Rattle.stream_lists.proofs.EachPhase.{member_where, length-list}
use Rattle.stream_lists.proofs.Fitting.{in_range}
use Rattle.stream_lists.proofs.Basics.{sink_kind}

-- ---- one phase

-- what is in range is the number itself
ranged-number : (single : Option Single) (z : ℤ) → ranged z ≢ TooBig
    → number (applied single (ranged z)) ≡ exact_single single (Some z)
ranged-number single z fits = by (nat_le (unsigned_abs z) value_max) refl
  where
    one : (single : Option Single) → number (applied single (Value z))
        ≡ exact_single single (Some z)
    one None = refl
    one (Some s) = refl

    by : (b : Bool) → nat_le (unsigned_abs z) value_max ≡ b
        → number (applied single (ranged z)) ≡ exact_single single (Some z)
    by true e = rw e (one single)
    by false e = absurd (fits (rw e refl))

-- so the number of a phase is the exact one, where its value is in range
same_number : (op : Op) (single : Option Single) (vs : List ℤ) → value_by op vs ≢ TooBig
    → number (applied single (value_by op vs)) ≡ exact_single single (exact_by op vs)
same_number Sum single vs fits = ranged-number single (sum_of vs) fits
same_number Product single vs fits = ranged-number single (product_of vs) fits
same_number Least None [] fits = refl
same_number Least (Some s) [] fits = refl
same_number Least None (v ∷ vs) fits = refl
same_number Least (Some s) (v ∷ vs) fits = refl
same_number Greatest None [] fits = refl
same_number Greatest (Some s) [] fits = refl
same_number Greatest None (v ∷ vs) fits = refl
same_number Greatest (Some s) (v ∷ vs) fits = refl
same_number Any None [] fits = refl
same_number Any (Some s) [] fits = refl
same_number Any None (v ∷ vs) fits = refl
same_number Any (Some s) (v ∷ vs) fits = refl

-- ---- a part of a list

same_front : (c : ℕ) (xs ys : List ℤ) → length xs ≡ length ys
    → ((n : ℕ) → n < c → n < length xs → entry xs n ≡ entry ys n) → take c xs ≡ take c ys
same_front zero xs ys long same = refl
same_front (suc c) [] [] long same = refl
same_front (suc c) [] (y ∷ ys) long same = absurd (omega arith)
same_front (suc c) (x ∷ xs) [] long same = absurd (omega arith)
same_front (suc c) (x ∷ xs) (y ∷ ys) long same =
    let here : x ≡ y = same 0 (omega arith) (omega arith) in
    ap (λ h. h ∷ take c xs) here
    ∙ ap (λ l. y ∷ l)
    (same_front c xs ys (omega arith) (λ n lt few. same (suc n) (omega arith) (omega arith)))

-- a part is the same where its entries are
same_part : (o c : ℕ) (xs ys : List ℤ) → length xs ≡ length ys
    → ((n : ℕ) → o ≤ n → n < o + c → n < length xs → entry xs n ≡ entry ys n)
    → take c (drop o xs) ≡ take c (drop o ys)
same_part zero c xs ys long same =
    same_front c xs ys long (λ n lt few. same n (omega arith) (omega arith) few)
same_part (suc o) c [] [] long same = refl
same_part (suc o) c [] (y ∷ ys) long same = absurd (omega arith)
same_part (suc o) c (x ∷ xs) [] long same = absurd (omega arith)
same_part (suc o) c (x ∷ xs) (y ∷ ys) long same =
    same_part o c xs ys (omega arith)
    (λ n low high few. same (suc n) (omega arith) (omega arith) (omega arith))

-- ---- the place of an input

place_of : (n : ℕ) (xs ys : List ℕ) (k : ℕ) → k < length xs → is_distinct (xs ++ ys) ≡ true
    → position_from (λ q. eqb q (get_or xs k 0)) n xs ≡ Some (n + k)
place_of n [] ys k lt distinct = absurd (omega arith)
place_of n (x ∷ xs) ys zero lt distinct =
    let same : n ≡ n + 0 = omega arith in
    rw (eq-eqb x x refl) (ap (λ i. Some i) same)
place_of n (x ∷ xs) ys (suc k) lt distinct =
    let parts = and_parts (not (list_any (λ q. eqb q x) (xs ++ ys))) (is_distinct (xs ++ ys))
    distinct in
    let next : n + 1 + k ≡ n + suc k = omega arith in
    by (eqb x (get_or xs k 0)) refl parts.0
    (place_of (n + 1) xs ys k (omega arith) parts.1 ∙ ap (λ i. Some i) next)
  where
    by : (b : Bool) → eqb x (get_or xs k 0) ≡ b
        → not (list_any (λ q. eqb q x) (xs ++ ys)) ≡ true
        → position_from (λ q. eqb q (get_or xs k 0)) (n + 1) xs ≡ Some (n + suc k)
        → cond b (Some n) (position_from (λ q. eqb q (get_or xs k 0)) (n + 1) xs)
        ≡ Some (n + suc k)
    by false e out rest = rest
    by true e out rest =
        let same : x ≡ get_or xs k 0 = eqb-true x (get_or xs k 0) e in
        let found : list_any (λ q. eqb q x) (xs ++ ys) ≡ true =
        any_front (λ q. eqb q x) xs ys k (omega arith) (eq-eqb (get_or xs k 0) x (sym same)) in
        absurd (let b : false ≡ true = sym (ap not found) ∙ out in cc)

-- no input stands twice on a line
pub place_of_input : (job : Job) (t k : ℕ) → IsGraph job.graph → t < length job.graph.tasks
    → k < length (task_at job.graph t).inputs
    → index_in (task_at job.graph t).inputs (get_or (task_at job.graph t).inputs k 0) ≡ Some k
place_of_input job t k is there lt =
    let line : IsTaskLine job.graph t (task_at job.graph t) = is.tasks t there in
    let same : 0 + k ≡ k = omega arith in
    place_of 0 (task_at job.graph t).inputs (task_at job.graph t).outputs k lt line.distinct
    ∙ ap (λ i. Some i) same

-- ---- the lists

pub exact_all : (job : Job) (p : ℕ) → IsGraph job.graph → p < length job.graph.phasers
    → get_or (exact_lists job) p [] ≡ exact_over job (schedule_of job)
    (exact_lists job) p
exact_all job p is below =
    grown-whole (exact_over job (schedule_of job)) (length job.graph.phasers) p []
    below
    (λ xs ys same. ap (λ members. map (exact_in job p members)
    (range_with_len 0 (get_or (lengths_of job) p 0)))
    (same_members job (schedule_of job) p xs ys is same))

length-exact : (job : Job) (p : ℕ) → IsGraph job.graph → p < length job.graph.phasers
    → length (get_or (exact_lists job) p []) ≡ get_or (lengths_of job) p 0
length-exact job p is below =
    ap length (exact_all job p is below)
    ∙ length-map-range_with_len _ 0 (get_or (lengths_of job) p 0)

-- each phase of phaser p that some task takes has the exact number
abbrev SameWhereTaken : Job → ℕ → Type 0
SameWhereTaken job p = (n t : ℕ) → Takes job p n t → n < get_or (lengths_of job) p 0
    → entry (get_or (numbers_of job) p []) n ≡ entry (get_or (exact_lists job) p []) n

-- so what a live task takes from it is the same
takes_same : (job : Job) (t k : ℕ) → IsGraph job.graph → t < length job.graph.tasks
    → (span_in job t).live ≡ true → k < length (task_at job.graph t).inputs
    → SameWhereTaken job (get_or (task_at job.graph t).inputs k 0)
    → taken_from (numbers_of job) (task_at job.graph t) (span_in job t) k
    ≡ taken_from (exact_lists job) (task_at job.graph t) (span_in job t) k
takes_same job t k is there live lt same =
    let task = task_at job.graph t in
    let span = span_in job t in
    let p = get_or task.inputs k 0 in
    let line : IsTaskLine job.graph t task = is.tasks t there in
    let below : p < length job.graph.phasers = line.inputs k 0 lt in
    let one : length (get_or (numbers_of job) p []) ≡ get_or (lengths_of job) p 0 =
    length-numbers job p is below in
    same_part span.offset (takes_from task span.steps k) (get_or (numbers_of job) p [])
    (get_or (exact_lists job) p []) (one ∙ sym (length-exact job p is below))
    (λ n low high few. same n t (record {
      there = there;
      live = live;
      input = k;
      waits = place_of_input job t k is there lt;
      begun = low;
      within = high;
    }) (omega arith))

-- and so is what it puts on phaser p, where that is so of the phasers above p
puts_same : (job : Job) (p t j : ℕ) → IsGraph job.graph → t < length job.graph.tasks
    → (span_in job t).live ≡ true → index_in (signalled_by (task_at job.graph t)) p ≡ Some j
    → ((q : ℕ) → q < p → SameWhereTaken job q)
    → output_on job (schedule_of job) (numbers_of job) t j
    ≡ output_on job (schedule_of job) (exact_lists job) t j
puts_same job p t j is there live at above =
    let task = task_at job.graph t in
    output_by_taken (samples_at job t) task (span_in job t) (numbers_of job) (exact_lists job) j
    (is.tasks t there).ends
    (λ k lt looks. takes_same job t k is there live lt (above (get_or task.inputs k 0)
    (looked_above job.graph t task j k p (is.tasks t there) at lt looks)))

where_live : (live : Bool) (offset : ℕ) (xs ys : List ℤ) → (live ≡ true → xs ≡ ys)
    → member_where live offset xs ≡ member_where live offset ys
where_live false offset xs ys same = refl
where_live true offset xs ys same = ap (λ (list : List ℤ). Some (offset, list)) (same refl)

members_same : (job : Job) (p : ℕ) → IsGraph job.graph
    → ((q : ℕ) → q < p → SameWhereTaken job q)
    → contributions_on job (schedule_of job) (numbers_of job) p
    ≡ contributions_on job (schedule_of job) (exact_lists job) p
members_same job p is above =
    filter_map-same (contribution_at job (schedule_of job) (numbers_of job) p)
    (contribution_at job (schedule_of job) (exact_lists job) p) 0 (length job.graph.tasks)
    (λ t less. by t (omega arith) (index_in (signalled_by (task_at job.graph t)) p) refl)
  where
    by : (t : ℕ) → t < length job.graph.tasks → (o : Option ℕ)
        → index_in (signalled_by (task_at job.graph t)) p ≡ o
        → contribution_by job (schedule_of job) (numbers_of job) t o
        ≡ contribution_by job (schedule_of job) (exact_lists job) t o
    by t there None at = refl
    by t there (Some j) at =
        where_live (span_in job t).live (span_in job t).offset
        (output_on job (schedule_of job) (numbers_of job) t j)
        (output_on job (schedule_of job) (exact_lists job) t j)
        (λ live. puts_same job p t j is there live at above)

-- the next phaser
same_next : (job : Job) (p : ℕ) → IsGraph job.graph → AreInRange job
    → p < length job.graph.phasers → ((q : ℕ) → q < p → SameWhereTaken job q)
    → SameWhereTaken job p
same_next job p is all below above n t takes lt =
    let op = (phaser_at job.graph p).op in
    let single = (phaser_at job.graph p).single in
    let count = get_or (lengths_of job) p 0 in
    let members = contributions_on job (schedule_of job) (numbers_of job) p in
    let exact = contributions_on job (schedule_of job) (exact_lists job) p in
    let phase = phase_in (value_by op) job p members in
    let long : length (list_over job (schedule_of job) (numbers_of job) p) ≡ count =
    length-map-range_with_len _ 0 count in
    let long_list : length (list_of_phaser job p) ≡ count = length-list job p in
    let at : 0 + n ≡ n = omega arith in
    ap (λ l. entry l n) (numbers_all job p is below)
    ∙ (get_or-map number (list_over job (schedule_of job) (numbers_of job) p) n Empty
    (pos 0) (omega arith)
    ∙ (ap number (get_or-map-range_with_len phase 0 count n n Empty lt at)
    ∙ (same_number op single (sends_in members n) (all.phases p n t below (omega arith) takes)
    ∙ (ap (λ ms. exact_in job p ms n) (members_same job p is above)
    ∙ (sym (get_or-map-range_with_len (exact_in job p exact) 0 count n n (pos 0) lt at)
    ∙ sym (ap (λ l. entry l n) (exact_all job p is below)))))))

same_up_to : (job : Job) → IsGraph job.graph → AreInRange job → (limit p : ℕ) → p < limit
    → p < length job.graph.phasers → SameWhereTaken job p
same_up_to job is all zero p less below = absurd (omega arith)
same_up_to job is all (suc limit) p less below =
    same_next job p is all below
    (λ q above. same_up_to job is all limit q (omega arith) (omega arith))

pub same_taken : (job : Job) (p : ℕ) → IsGraph job.graph → Fits job
    → p < length job.graph.phasers → SameWhereTaken job p
same_taken job p is fits below =
    same_up_to job is (in_range job is fits) (suc p) p (omega arith) below

-- ---- in the words of the law

pub exact_taken : (job : Job) (p n t : ℕ) → IsGraph job.graph → Fits job
    → p < length job.graph.phasers → n < length (list_of_phaser job p) → Takes job p n t
    → number (get_or (list_of_phaser job p) n Empty) ≡ entry (get_or (exact_lists job) p []) n
exact_taken job p n t is fits below lt takes =
    let long : length (list_of_phaser job p) ≡ get_or (lengths_of job) p 0 = length-list job p in
    sym (get_or-map number (list_of_phaser job p) n Empty (pos 0) lt)
    ∙ (ap (λ l. entry (map number l) n) (lists_above job p is below)
    ∙ (ap (λ l. entry l n) (sym (numbers_all job p is below))
    ∙ same_taken job p is fits below n t takes (omega arith)))

pub exact_outputs : (job : Job) (t j : ℕ) → IsGraph job.graph → Fits job
    → t < length job.graph.tasks → (span_in job t).live ≡ true
    → output_on job (schedule_of job) (numbers_of job) t j
    ≡ output_on job (schedule_of job) (exact_lists job) t j
exact_outputs job t j is fits there live =
    let task = task_at job.graph t in
    let line : IsTaskLine job.graph t task = is.tasks t there in
    output_by_taken (samples_at job t) task (span_in job t) (numbers_of job) (exact_lists job) j
    line.ends
    (λ k lt looks. takes_same job t k is there live lt
    (same_taken job (get_or task.inputs k 0) is fits (line.inputs k 0 lt)))

pub exact_members : (job : Job) (p : ℕ) → IsGraph job.graph → Fits job
    → p < length job.graph.phasers
    → list_of_phaser job p ≡ list_over job (schedule_of job) (exact_lists job) p
exact_members job p is fits below =
    lists_above job p is below
    ∙ ap (λ members. map (phase_in (value_by (phaser_at job.graph p).op) job p members)
    (range_with_len 0 (get_or (lengths_of job) p 0)))
    (members_same job p is (λ q above. same_taken job q is fits (omega arith)))

-- ---- the sinks

same_picked : {B : Type 0} (f g : ℕ → B) (test : ℕ → Bool) (a n : ℕ)
    → ((t : ℕ) → t < a + n → test t ≡ true → f t ≡ g t)
    → map f (filter test (range_with_len a n)) ≡ map g (filter test (range_with_len a n))
same_picked f g test a zero same = refl
same_picked f g test a (suc n) same =
    by (test a) refl (same_picked f g test (a + 1) n (λ t lt e. same t (omega arith) e))
  where
    by : (b : Bool) → test a ≡ b
        → map f (filter test (range_with_len (a + 1) n))
        ≡ map g (filter test (range_with_len (a + 1) n))
        → map f (filter test (range_with_len a (suc n)))
        ≡ map g (filter test (range_with_len a (suc n)))
    by false e rest = rw e rest
    by true e rest =
        rw e (ap (λ h. h ∷ map f (filter test (range_with_len (a + 1) n))) (same a (omega arith) e)
        ∙ ap (λ l. g a ∷ l) rest)

-- a task that is not live makes no step
no_step : (job : Job) (t : ℕ) → IsGraph job.graph → t < length job.graph.tasks
    → (span_in job t).live ≡ false → (span_in job t).steps ≡ 0
no_step job t is there dead =
    by (offset_of (spans_of job) (start_at job t) (task_at job.graph t).parent)
    (spans_all job t is there)
  where
    by : (o : Option ℕ) → span_in job t ≡ span_at (task_at job.graph t) (length (samples_at job t))
        (lengths_of job) o → (span_in job t).steps ≡ 0
    by None e = ap (λ (s : Span). s.steps) e
    by (Some offset) e =
        absurd (let b : false ≡ true = sym dead ∙ ap (λ (s : Span). s.live) e in cc)

sink_same : (job : Job) (t : ℕ) → IsGraph job.graph → Fits job → t < length job.graph.tasks
    → is_sink_at job t ≡ true
    → sink_over job (schedule_of job) (numbers_of job) t
    ≡ sink_over job (schedule_of job) (exact_lists job) t
sink_same job t is fits there e = ap (λ (list : List ℤ). (t, list)) (by (span_in job t).live refl)
  where
    task : Task
    task = task_at job.graph t

    kind : (task_at job.graph t).kind ≡ Sink
    kind = sink_kind (task_at job.graph t).kind e

    one : takes_from (task_at job.graph t) (span_in job t).steps 0 ≡ (span_in job t).steps
    one = rw kind refl

    by : (b : Bool) → (span_in job t).live ≡ b
        → taken_from (numbers_of job) (task_at job.graph t) (span_in job t) 0
        ≡ taken_from (exact_lists job) (task_at job.graph t) (span_in job t) 0
    by false dead =
        let none = one ∙ no_step job t is there dead in
        rw none refl
    by true live =
        let line : IsTaskLine job.graph t (task_at job.graph t) = is.tasks t there in
        let Ends : Kind → Type 0 = λ k.
        HasEnds k (length task.inputs) (length task.outputs) in
        let both : (length task.inputs ≡ 1) × (length task.outputs ≡ 0) =
        subst Ends kind line.ends in
        let some : 0 < length task.inputs = omega (arith, both.0) in
        takes_same job t 0 is there live some
        (same_taken job (get_or task.inputs 0 0) is fits (line.inputs 0 0 some))

pub exact_lines_are : (job : Job) → IsGraph job.graph → Fits job
    → lines_of job ≡ exact_lines job
exact_lines_are job is fits =
    same_picked (sink_over job (schedule_of job) (numbers_of job))
    (sink_over job (schedule_of job) (exact_lists job)) (is_sink_at job) 0 (length job.graph.tasks)
    (λ t lt e. sink_same job t is fits (omega arith) e)
