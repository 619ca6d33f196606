-- A job fits where each value that is made, and each phase that is taken, is in range.
use Rattle.std.proofs.Common.{◌≡◌, ◌≢◌, ℕ, zero, suc, ◌+◌, ◌<◌, ◌≤◌, Bool, true, false, ◌&&◌, List, [], ◌∷◌, ◌++◌, Some, None, ℤ, length, map, get_or, refl, sym, ap, subst, ◌∙◌, arith, ◌⊎◌, inl, inr}
use Rattle.std.specs.Prelude.{Option, nat_lt, nat_le, if◌then◌else◌, unsigned_abs, ◌↔◌}
use Rattle.std.specs.Option.{option_map}
use Rattle.std.specs.List.{range_with_len, list_any, find, position_from}
use Rattle.std.proofs.lemmas.Bool.{cases_lt, and_parts, and_from, or_cases, or_left, or_right, eq-eqb, ne_eqb}
use Rattle.std.proofs.lemmas.Bool.Decides.{nat_tests}
use Rattle.phase_accum.specs.Sends.{IsSend, AreSends, value_max}
use Rattle.phase_accum.specs.declared.outcome.Outcome.{Outcome}
use Rattle.phase_accum.specs.declared.outcome.Outcome.TheVariants.{Value, Empty, TooBig}
use Rattle.graph_base.specs.Graphs.{Task, task_at, phaser_at}
use Rattle.graph_base.specs.TaskLines.{IsGraph, IsTaskLine, HasEnds}
use Rattle.graph_base.specs.declared.line.Kind.{Kind}
use Rattle.graph_base.specs.declared.line.Kind.TheVariants.{Source, Fir, Split, Decimate, Join, Peer, Sink}
use Rattle.graph_base.specs.declared.place.Place.TheVariants as place
use Rattle.stream_lists.specs.Jobs.{Job, samples_at, index_in}
use Rattle.stream_lists.specs.Spans.{lengths_of, span_in, signalled_by, takes_from, schedule_of}
use Rattle.stream_lists.specs.Lists.{contributions_on, sends_in, value_by, list_over, list_of_phaser, number, numbers_of, numbers_above, output_on}
use Rattle.stream_lists.specs.Ranges.{first_some, is_out_of_range, are_made, made_fault, output_fault, output_fault_of, output_faults, takes_phase, task_takes, is_taken, is_too_big, is_fault, first_fault, phase_fault_of, fault_on, Fits}
use Rattle.stream_lists.specs.Entries.{output_values, sends_at, Takes, Makes, AreInRange}
use Rattle.stream_lists.proofs.Growing.{AreSameBelow, grown-same}
use Rattle.stream_lists.proofs.InRange.{IsSend-in_range}
use Rattle.stream_lists.proofs.Ordered.{looked_above, place-at}
use Rattle.stream_lists.proofs.ListsAbove.{same_output, members_above}
use Rattle.stream_lists.proofs.EachPhase.{find_none, length-list}

-- ---- where none of a list is there

first-none : {A : Type 0} (f : ℕ → Option A) (a n : ℕ) → ((i : ℕ) → i < a + n → f i ≡ None)
    → first_some (map f (range_with_len a n)) ≡ None
first-none f a zero each = refl
first-none f a (suc n) each =
    rw (each a (omega arith)) (first-none f (a + 1) n (λ i lt. each i (omega arith)))

none-at : {A : Type 0} (f : ℕ → Option A) (a n i : ℕ)
    → first_some (map f (range_with_len a n)) ≡ None → a ≤ i → i < a + n → f i ≡ None
none-at f a zero i none low high = absurd (omega arith)
none-at f a (suc n) i none low high =
    by (f a) refl none (cases_lt a i)
    (λ e more. none-at f (a + 1) n i e (omega arith) (omega arith))
  where
    by : (o : Option _) → f a ≡ o → first_some (o ∷ map f (range_with_len (a + 1) n)) ≡ None
        → (a < i) ⊎ (i ≤ a)
        → (first_some (map f (range_with_len (a + 1) n)) ≡ None → a < i → f i ≡ None)
        → f i ≡ None
    by (Some x) is e c rec = absurd (cc)
    by None is e (inl more) rec = rec e more
    by None is e (inr here) rec = let same : i ≡ a = omega arith in ap f same ∙ is

first-last : {A : Type 0} (os : List (Option A)) (o : Option A) → first_some os ≡ None → o ≡ None
    → first_some (os ++ o ∷ []) ≡ None
first-last [] None none e = refl
first-last [] (Some a) none e = e
first-last (None ∷ os) o none e = first-last os o none e
first-last (Some a ∷ os) o none e = absurd (cc)

none-apart : {A : Type 0} (os : List (Option A)) (o : Option A)
    → first_some (os ++ o ∷ []) ≡ None → (first_some os ≡ None) × (o ≡ None)
none-apart [] None e = (refl, refl)
none-apart [] (Some a) e = absurd (cc)
none-apart (None ∷ os) o e = none-apart os o e
none-apart (Some a ∷ os) o e = absurd (cc)

map-none : {A B : Type 0} (f : A → B) (o : Option A) → o ≡ None → option_map f o ≡ None
map-none f None e = refl
map-none f (Some a) e = absurd (cc)

none-map : {A B : Type 0} (f : A → B) (o : Option A) → option_map f o ≡ None → o ≡ None
none-map f None e = refl
none-map f (Some a) e = absurd (cc)

find-none : (test : ℕ → Bool) (a n : ℕ) → ((i : ℕ) → i < a + n → test i ≡ false)
    → find test (range_with_len a n) ≡ None
find-none test a zero each = refl
find-none test a (suc n) each =
    rw (each a (omega arith)) (find-none test (a + 1) n (λ i lt. each i (omega arith)))

-- some number passes, and where one does
pub any-from : (test : ℕ → Bool) (a n : ℕ) → list_any test (range_with_len a n) ≡ true
    → (t : ℕ) × (t < a + n) × (test t ≡ true)
any-from test a zero e = absurd (cc)
any-from test a (suc n) e =
    by (or_cases (test a) (list_any test (range_with_len (a + 1) n)) e)
    (λ f. any-from test (a + 1) n f)
  where
    by : (test a ≡ true) ⊎ (list_any test (range_with_len (a + 1) n) ≡ true)
        → (list_any test (range_with_len (a + 1) n) ≡ true
        → (t : ℕ) × (t < a + 1 + n) × (test t ≡ true))
        → (t : ℕ) × (t < a + suc n) × (test t ≡ true)
    by (inl is) rec = (a, omega arith, is)
    by (inr f) rec =
        let r = rec f in
        let below : r.0 < a + 1 + n = r.1 in (r.0, omega arith, r.2)

pub any-at : (test : ℕ → Bool) (a n t : ℕ) → a ≤ t → t < a + n → test t ≡ true
    → list_any test (range_with_len a n) ≡ true
any-at test a zero t low high e = absurd (omega arith)
any-at test a (suc n) t low high e =
    by (cases_lt a t) (λ more. any-at test (a + 1) n t (omega arith) (omega arith) e)
  where
    by : (a < t) ⊎ (t ≤ a) → (a < t → list_any test (range_with_len (a + 1) n) ≡ true)
        → list_any test (range_with_len a (suc n)) ≡ true
    by (inl more) rec = or_right (test a) (list_any test (range_with_len (a + 1) n)) (rec more)
    by (inr here) rec =
        let same : a ≡ t = omega arith in
        or_left (test a) (list_any test (range_with_len (a + 1) n)) (ap test same ∙ e)

-- ---- numbers in range

pub send-fits : (v : ℤ) → IsSend v → is_out_of_range v ≡ false
send-fits v is =
    let small : unsigned_abs v ≤ value_max = is.small in
    let test : nat_le (unsigned_abs v) value_max ≡ true = grind (arith, nat_tests, small) in
    rw test refl

pub none_out : (n : ℕ) (xs : List ℤ) → AreSends xs → position_from is_out_of_range n xs ≡ None
none_out n [] all = refl
none_out n (x ∷ xs) all = rw (send-fits x all.0) (none_out (n + 1) xs all.1)

pub all_sends : (n : ℕ) (xs : List ℤ) → position_from is_out_of_range n xs ≡ None → AreSends xs
all_sends n [] e = tt
all_sends n (x ∷ xs) e = by (is_out_of_range x) refl e (λ f. all_sends (n + 1) xs f)
  where
    by : (b : Bool) → is_out_of_range x ≡ b
        → (if b then Some n else position_from is_out_of_range (n + 1) xs) ≡ None
        → (position_from is_out_of_range (n + 1) xs ≡ None → AreSends xs)
        → AreSends (x ∷ xs)
    by true is f rec = absurd (cc)
    by false is f rec = (IsSend-in_range x is, rec f)

-- ---- over the lists of all phasers

above_same : (job : Job) (p : ℕ) → p < length job.graph.phasers
    → AreSameBelow [] p (numbers_above job p) (numbers_of job)
above_same job p below =
    grown-same (λ above q. map number (list_over job (schedule_of job) above q)) [] p
    (length job.graph.phasers) (omega arith)

outputs_same : (job : Job) (p t j : ℕ) → IsGraph job.graph → p < length job.graph.phasers
    → t < length job.graph.tasks → index_in (signalled_by (task_at job.graph t)) p ≡ Some j
    → output_on job (schedule_of job) (numbers_above job p) t j ≡ output_values job t j
outputs_same job p t j is below there at =
    let task = task_at job.graph t in
    same_output (samples_at job t) task (span_in job t) (numbers_above job p) (numbers_of job) j
    (is.tasks t there).ends
    (λ k lt looks. above_same job p below (get_or task.inputs k 0)
    (looked_above job.graph t task j k p (is.tasks t there) at lt looks))

-- ---- what is taken

pub takes_parts : (job : Job) (p n t : ℕ) → t < length job.graph.tasks
    → task_takes job (schedule_of job) p n t ≡ true → Takes job p n t
takes_parts job p n t there e = by (index_in (task_at job.graph t).inputs p) refl e
  where
    by : (o : Option ℕ) → index_in (task_at job.graph t).inputs p ≡ o
        → takes_phase (task_at job.graph t) (span_in job t) n o ≡ true → Takes job p n t
    by None at f = absurd (cc)
    by (Some k) at f =
        let span = span_in job t in
        let end = span.offset + takes_from (task_at job.graph t) span.steps k in
        let parts = and_parts (span.live && nat_le span.offset n) (nat_lt n end) f in
        let front = and_parts span.live (nat_le span.offset n) parts.0 in
        record {
          there = there;
          live = front.0;
          input = k;
          waits = at;
          begun = grind (arith, nat_tests, front.1);
          within = grind (arith, nat_tests, parts.1);
        }

takes_test : (job : Job) (p n t : ℕ) → Takes job p n t
    → task_takes job (schedule_of job) p n t ≡ true
takes_test job p n t takes =
    let span = span_in job t in
    let task = task_at job.graph t in
    let end = span.offset + takes_from task span.steps takes.input in
    let begun : span.offset ≤ n = takes.begun in
    let within : n < end = takes.within in
    let one : nat_le span.offset n ≡ true = grind (arith, nat_tests, begun) in
    let two : nat_lt n end ≡ true = grind (arith, nat_tests, within) in
    ap (takes_phase task span n) takes.waits
    ∙ and_from (span.live && nat_le span.offset n) (nat_lt n end)
    (and_from span.live (nat_le span.offset n) takes.live one) two

-- ---- from the first fault

no_fault_on : (job : Job) (p : ℕ) → Fits job → p < length job.graph.phasers
    → fault_on job p ≡ None
no_fault_on job p fits below =
    none-at (fault_on job) 0 (length job.graph.phasers) p fits (omega arith) (omega arith)

first_place : (qs : List ℕ) → 0 < length qs → index_in qs (get_or qs 0 0) ≡ Some 0
first_place [] some = absurd (omega arith)
first_place (q ∷ qs) some = rw (eq-eqb q q refl) refl

second_place : (p q : ℕ) → p < q → index_in (p ∷ q ∷ []) q ≡ Some 1
second_place p q less =
    rw (ne_eqb p q (λ e. omega arith), eq-eqb q q refl) refl

-- each output that a task makes stands on some phaser
pub made_on : (job : Job) (t j : ℕ) → IsGraph job.graph → Makes job t j
    → (p : ℕ) × (p < length job.graph.phasers)
    × (index_in (signalled_by (task_at job.graph t)) p ≡ Some j)
made_on job t j is makes = by (task_at job.graph t).kind j refl refl
  where
    task : Task
    task = task_at job.graph t

    line : IsTaskLine job.graph t (task_at job.graph t)
    line = is.tasks t makes.there

    never : (kind : Kind) → (task_at job.graph t).kind ≡ kind → are_made kind j ≡ false → ⊥
    never kind e none =
        let b : true ≡ false = sym makes.made ∙ (ap (λ k. are_made k j) e ∙ none) in cc

    by : (kind : Kind) (i : ℕ) → (task_at job.graph t).kind ≡ kind → j ≡ i
        → (p : ℕ) × (p < length job.graph.phasers)
        × (index_in (signalled_by (task_at job.graph t)) p ≡ Some j)
    by Source i e at = absurd (never Source e refl)
    by Split i e at = absurd (never Split e refl)
    by Decimate i e at = absurd (never Decimate e refl)
    by Join i e at = absurd (never Join e refl)
    by Sink i e at = absurd (never Sink e refl)
    by Fir i e at =
        let Ends : Kind → Type 0 = λ kind.
        HasEnds kind (length task.inputs) (length task.outputs) in
        let both : (length task.inputs ≡ 1) × (length task.outputs ≡ 1) = subst Ends e line.ends in
        let same : signalled_by task ≡ task.outputs = rw e refl in
        let few : j < length task.outputs = subst (λ qs. j < length qs) same makes.output in
        let one : length task.outputs ≡ 1 = both.1 in
        let first : j ≡ 0 = omega arith in (
          get_or task.outputs 0 0,
          line.outputs 0 0 (omega arith),
          ap (λ qs. index_in qs (get_or task.outputs 0 0)) same
              ∙ (first_place task.outputs (omega arith) ∙ ap (λ k. Some k) (sym first)),
        )
    by Peer i e at =
        let Ends : Kind → Type 0 = λ kind.
        HasEnds kind (length task.inputs) (length task.outputs) in
        let both : (length task.inputs ≡ 2) × (length task.outputs ≡ 1) = subst Ends e line.ends in
        let same : signalled_by task ≡ get_or task.inputs 1 0 ∷ get_or task.outputs 0 0 ∷ [] =
        rw e refl in
        let few : j < 2 = subst (λ qs. j < length qs) same makes.output in
        let ins : length task.inputs ≡ 2 = both.0 in
        let outs : length task.outputs ≡ 1 = both.1 in
        let made : nat_lt 0 j ≡ true = subst (λ kind. are_made kind j ≡ true) e makes.made in
        let some : 0 < j = grind (arith, nat_tests, made) in
        let second : j ≡ 1 = omega arith in
        let above : get_or task.inputs 1 0 < get_or task.outputs 0 0 =
        line.in_order 1 0 (omega arith) 0 0 (omega arith) in (
          get_or task.outputs 0 0,
          line.outputs 0 0 (omega arith),
          ap (λ qs. index_in qs (get_or task.outputs 0 0)) same
              ∙ (second_place (get_or task.inputs 1 0) (get_or task.outputs 0 0) above
              ∙ ap (λ k. Some k) (sym second)),
        )

fits_outputs : (job : Job) (t j : ℕ) → IsGraph job.graph → Fits job → Makes job t j
    → AreSends (output_values job t j)
fits_outputs job t j is fits makes =
    let on = made_on job t j is makes in
    let p = on.0 in
    let above = numbers_above job p in
    let apart = none-apart (output_faults job (schedule_of job) above p)
    (phase_fault_of job (schedule_of job) above p) (no_fault_on job p fits on.1) in
    let mine = none-at (output_fault_of job (schedule_of job) above p) 0 (length job.graph.tasks) t
    apart.0 (omega arith) (omega (arith, makes.there)) in
    let placed : output_fault job (schedule_of job) above t (Some j) ≡ None =
    ap (output_fault job (schedule_of job) above t) (sym on.2)
    ∙ none-map (λ step. (place.Task t, step)) _ mine in
    let live : made_fault job (schedule_of job) above t j ≡ None =
    ap (λ b. if b then made_fault job (schedule_of job) above t j else None) (sym makes.live)
    ∙ placed in
    let list = output_on job (schedule_of job) above t j in
    let none : position_from is_out_of_range 0 list ≡ None =
    ap (λ b. if b then position_from is_out_of_range 0 list else None) (sym makes.made) ∙ live in
    all_sends 0 (output_values job t j)
    (ap (λ l. position_from is_out_of_range 0 l)
    (sym (outputs_same job p t j is on.1 makes.there on.2)) ∙ none)

fits_phases : (job : Job) (p n t : ℕ) → IsGraph job.graph → Fits job
    → p < length job.graph.phasers → n < length (list_of_phaser job p) → Takes job p n t
    → value_by (phaser_at job.graph p).op (sends_at job p n) ≢ TooBig
fits_phases job p n t is fits below lt takes e =
    let value = value_by (phaser_at job.graph p).op in
    let above = numbers_above job p in
    let there : t < length job.graph.tasks = takes.there in
    let long : length (list_of_phaser job p) ≡ get_or (lengths_of job) p 0 = length-list job p in
    let apart = none-apart (output_faults job (schedule_of job) above p)
    (phase_fault_of job (schedule_of job) above p) (no_fault_on job p fits below) in
    let none = none-map (λ n. (place.Phaser p, n)) _ apart.1 in
    let passes = find_none (is_fault value job (schedule_of job)
    (contributions_on job (schedule_of job) above p) p) 0 (get_or (lengths_of job) p 0) n none
    (omega arith) (omega arith) in
    let big : is_too_big (value (sends_in (contributions_on job (schedule_of job) above p) n)) ≡ true =
    ap (λ ms. is_too_big (value (sends_in ms n))) (members_above job p is below)
    ∙ ap is_too_big e in
    let taken : is_taken job (schedule_of job) p n ≡ true =
    any-at (task_takes job (schedule_of job) p n) 0 (length job.graph.tasks) t (omega arith)
    (omega arith) (takes_test job p n t takes) in
    let b : true ≡ false = sym (and_from _ _ big taken) ∙ passes in cc

-- ---- to the first fault

not_big : (o : Outcome) → o ≢ TooBig → is_too_big o ≡ false
not_big TooBig other = absurd (other refl)
not_big Empty other = refl
not_big (Value v) other = refl

and_none : (a b : Bool) → (b ≡ true → a ≡ false) → (a && b) ≡ false
and_none a true none = rw (none refl) refl
and_none true false none = refl
and_none false false none = refl

pub fits_from : (job : Job) → IsGraph job.graph → AreInRange job → Fits job
fits_from job is all =
    first-none (fault_on job) 0 (length job.graph.phasers) (λ p lt. at p (omega arith))
  where
    output : (p : ℕ) → p < length job.graph.phasers → (t : ℕ) → t < length job.graph.tasks
        → output_fault_of job (schedule_of job) (numbers_above job p) p t ≡ None
    output p below t there =
        map-none (λ step. (place.Task t, step)) _
        (by (index_in (signalled_by (task_at job.graph t)) p) refl)
      where
        by : (o : Option ℕ) → index_in (signalled_by (task_at job.graph t)) p ≡ o
            → output_fault job (schedule_of job) (numbers_above job p) t o ≡ None
        by None e = refl
        by (Some j) e = live_case (span_in job t).live refl
          where
            made_case : (b : Bool)
                → are_made (task_at job.graph t).kind j ≡ b → (span_in job t).live ≡ true
                → (if b then position_from is_out_of_range 0
                (output_on job (schedule_of job) (numbers_above job p) t j) else None) ≡ None
            made_case false made live = refl
            made_case true made live =
                ap (λ l. position_from is_out_of_range 0 l)
                (outputs_same job p t j is below there e)
                ∙ none_out 0 (output_values job t j) (all.outputs t j (record {
                  there = there;
                  live = live;
                  output = (place-at (signalled_by (task_at job.graph t)) p j e).0;
                  made = made;
                }))

            live_case : (b : Bool) → (span_in job t).live ≡ b
                → (if b then made_fault job (schedule_of job) (numbers_above job p) t j else None)
                ≡ None
            live_case false dead = refl
            live_case true live =
                made_case (are_made (task_at job.graph t).kind j) refl live

    phase : (p : ℕ) → p < length job.graph.phasers
        → phase_fault_of job (schedule_of job) (numbers_above job p) p ≡ None
    phase p below =
        map-none (λ n. (place.Phaser p, n)) _
        (ap (λ ms. first_fault (value_by (phaser_at job.graph p).op) job (schedule_of job) ms p
        (get_or (lengths_of job) p 0)) (members_above job p is below)
        ∙ find-none (is_fault (value_by (phaser_at job.graph p).op) job (schedule_of job)
        (contributions_on job (schedule_of job) (numbers_of job) p) p) 0 (get_or (lengths_of job) p 0)
        (λ n lt. (let long : length (list_of_phaser job p) ≡ get_or (lengths_of job) p 0 =
        length-list job p in
        and_none _ (is_taken job (schedule_of job) p n)
        (λ taken. (let f = any-from (task_takes job (schedule_of job) p n) 0
        (length job.graph.tasks) taken in
        let there : f.0 < 0 + length job.graph.tasks = f.1 in
        not_big _ (all.phases p n f.0 below (omega arith)
        (takes_parts job p n f.0 (omega arith) f.2)))))))

    at : (p : ℕ) → p < length job.graph.phasers → fault_on job p ≡ None
    at p below =
        first-last (output_faults job (schedule_of job) (numbers_above job p) p) _
        (first-none (output_fault_of job (schedule_of job) (numbers_above job p) p) 0
        (length job.graph.tasks) (λ t lt. output p below t (omega arith)))
        (phase p below)

pub in_range : (job : Job) → IsGraph job.graph → Fits job → AreInRange job
in_range job is fits = record {
  outputs = λ t j makes. fits_outputs job t j is fits makes;
  phases = λ p n t below lt takes. fits_phases job p n t is fits below lt takes;
}

pub fits_is : (job : Job) → IsGraph job.graph → Fits job ↔ AreInRange job
fits_is job is = (λ fits. in_range job is fits, λ all. fits_from job is all)
