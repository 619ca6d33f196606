-- Which tasks have a value in a phase of a phaser's list.
use Rattle.std.proofs.Common.{◌≡◌, ℕ, zero, suc, ◌+◌, ◌<◌, ◌≤◌, ◌⊎◌, inl, inr, Bool, true, false, ◌&&◌, length, map, get_or, ℤ, Some, None, refl, sym, ap, ◌∙◌, arith, List}
use Rattle.std.specs.Prelude.{max, Option, nat_lt, nat_le, if◌then◌else◌, ◌↔◌}
use native.Mathlib.Nat.{zero-max}
use Rattle.std.specs.List.{range_with_len, fold, list_any, find}
use Rattle.std.specs.Option.{option_map}
use Rattle.std.proofs.lemmas.Bool.{cases_lt, cases_order, and_parts, or_parts}
use Rattle.std.proofs.lemmas.Bool.Decides.{nat_tests}
use Rattle.std.proofs.lemmas.List.FromFn.{length-map-range_with_len}
use Rattle.graph_base.specs.Graphs.{Graph, Task, task_at, phaser_at}
use Rattle.graph_base.specs.TaskLines.{IsGraph, IsTaskLine, IsParent, has_children}
use Rattle.graph_base.specs.declared.line.Kind.{Kind}
use Rattle.graph_base.specs.declared.line.Kind.TheVariants.{Source, Fir, Split, Decimate, Join, Peer, Sink}
use Rattle.phase_base.specs.declared.operation.Op.TheVariants.{Any}
use Rattle.graph_base.specs.declared.line.Parent.{Parent}
use Rattle.stream_lists.specs.Jobs.{Job, samples_at, start_at, index_in}
use Rattle.stream_lists.specs.Spans.{signalled_by, puts_on, offset_of, span_at, spans_of, lengths_of, span_in, end_on, end_of}
use Rattle.stream_lists.specs.Lists.{Contribution, list_of_phaser}
use Rattle.stream_lists.specs.Meetings.{is_any, overlap, meet_on, meets_on, meets_above, meeting_line}
use Rattle.stream_lists.specs.Entries.{output_values, HasEntry}
use Rattle.stream_lists.specs.declared.span.Span.{Span}
use Rattle.stream_lists.proofs.Ordered.{place-at, parent_signals}
use Rattle.stream_lists.proofs.SpansAbove.{parent-is, spans_all}
use Rattle.stream_lists.proofs.LengthsAbove.{lengths_all}
use Rattle.stream_lists.proofs.ListLengths.{outputs_long}

-- a member where the task is live
abbrev pub member_where : Bool → ℕ → List ℤ → Option Contribution
member_where live offset list = if live then Some (offset, list) else None

-- ---- where a task ends

-- a live task that signals phaser p ends there where its values do
pub record Ends (job : Job) (p t : ℕ) : Type 0 where
  pub live : (span_in job t).live ≡ true
  pub output : ℕ
  pub signals : index_in (signalled_by (task_at job.graph t)) p ≡ Some output
  pub end_is : end_of job.graph (spans_of job) p t
      ≡ (span_in job t).offset + length (output_values job t output)

ends_there : (job : Job) (p t j : ℕ) → IsGraph job.graph → t < length job.graph.tasks
    → (span_in job t).live ≡ true → index_in (signalled_by (task_at job.graph t)) p ≡ Some j
    → end_of job.graph (spans_of job) p t
    ≡ (span_in job t).offset + length (output_values job t j)
ends_there job p t j is there live signals =
    let task = task_at job.graph t in
    let span = span_in job t in
    let long = outputs_long job t j is there (place-at (signalled_by task) p j signals).0 in
    ap (end_on task span) signals
    ∙ (ap (λ b. if b then span.offset + puts_on task span.steps j else 0) live
    ∙ ap (λ n. span.offset + n) (sym long))

-- a task that ends somewhere is one
ends_from : (job : Job) (p t n : ℕ) → IsGraph job.graph → t < length job.graph.tasks
    → n < end_of job.graph (spans_of job) p t → Ends job p t
ends_from job p t n is there lt =
    by (index_in (signalled_by (task_at job.graph t)) p) refl lt
  where
    by : (place : Option ℕ) → index_in (signalled_by (task_at job.graph t)) p ≡ place
        → n < end_on (task_at job.graph t) (span_in job t) place → Ends job p t
    by None e less = absurd (omega arith)
    by (Some j) e less = live_case (span_in job t).live refl less
      where
        live_case : (b : Bool) → (span_in job t).live ≡ b
            → n < (if b then (span_in job t).offset
            + puts_on (task_at job.graph t) (span_in job t).steps j else 0)
            → Ends job p t
        live_case false dead few = absurd (omega arith)
        live_case true live few = record {
          live = live;
          output = j;
          signals = e;
          end_is = ends_there job p t j is there live e;
        }

-- a value in phase n is one from where the task begins to where it ends
entry_from : (job : Job) (p n t : ℕ) → t < length job.graph.tasks → Ends job p t
    → (span_in job t).offset ≤ n → n < end_of job.graph (spans_of job) p t → HasEntry job p n t
entry_from job p n t there ends begun lt =
    let end = ends.end_is in
    record {
      there = there;
      live = ends.live;
      output = ends.output;
      signals = ends.signals;
      begun = begun;
      reaches = omega arith;
    }

entry_ends : (job : Job) (p n t : ℕ) → IsGraph job.graph → HasEntry job p n t
    → n < end_of job.graph (spans_of job) p t
entry_ends job p n t is entry =
    let end = ends_there job p t entry.output is entry.there entry.live entry.signals in
    omega (arith, entry.reaches)

-- ---- each phase has an entry

-- what is below the greatest of these is below one of them
below_one : (f : ℕ → ℕ) (a from many n : ℕ) → n < fold max a (map f (range_with_len from many))
    → (n < a) ⊎ ((t : ℕ) × (t < from + many) × (n < f t))
below_one f a from zero n lt = inl lt
below_one f a from (suc many) n lt =
    by (below_one f (max a (f from)) (from + 1) many n lt) (cases_lt n a)
  where
    by : (n < max a (f from)) ⊎ ((t : ℕ) × (t < from + 1 + many) × (n < f t))
        → (n < a) ⊎ (a ≤ n)
        → (n < a) ⊎ ((t : ℕ) × (t < from + suc many) × (n < f t))
    by (inr later) c =
        let below : later.0 < from + 1 + many = later.1 in
        inr (later.0, omega arith, later.2)
    by (inl here) (inl less) = inl less
    by (inl here) (inr most) = inr (from, omega arith, omega arith)

-- a task that may have children puts a value in each step
one_a_step : (task : Task) (steps j : ℕ) → has_children task.kind ≡ true
    → puts_on task steps j ≡ steps
one_a_step task steps j may = by task.kind refl
  where
    by : (kind : Kind) → task.kind ≡ kind → puts_on task steps j ≡ steps
    by Source e = rw e refl
    by Fir e = rw e refl
    by Sink e = rw e refl
    by Join e = rw e refl
    by Peer e = rw e refl
    by Split e = absurd (let b : true ≡ false = sym may ∙ ap has_children e in cc)
    by Decimate e = absurd (let b : true ≡ false = sym may ∙ ap has_children e in cc)

-- a child begins where its parent has come to, at most at its end
pub record Begins (job : Job) (t : ℕ) (u : Parent) : Type 0 where
  pub live : (span_in job u.task).live ≡ true
  pub offset : (span_in job t).offset ≡ (span_in job u.task).offset + u.at
  pub within : u.at ≤ (span_in job u.task).steps

-- a task that signals joins with its parent
pub signaller_stays : (graph : Graph) (t p j : ℕ) → IsGraph graph → t < length graph.tasks
    → index_in (signalled_by (task_at graph t)) p ≡ Some j → (task_at graph t).joins_now ≡ false
signaller_stays graph t p j is there place = by (task_at graph t).joins_now refl
  where
    few : j < length (signalled_by (task_at graph t))
    few = (place-at (signalled_by (task_at graph t)) p j place).0

    by : (b : Bool) → (task_at graph t).joins_now ≡ b → (task_at graph t).joins_now ≡ false
    by false e = e
    by true e =
        let sink : (task_at graph t).kind ≡ Sink = ((is.tasks t there).now e).0 in
        let both : (length (task_at graph t).inputs ≡ 1)
        × (length (task_at graph t).outputs ≡ 0) = rw sink at (is.tasks t there).ends in
        let outs : signalled_by (task_at graph t) ≡ (task_at graph t).outputs = rw sink refl in
        let none : length (signalled_by (task_at graph t)) ≡ 0 = ap length outs ∙ both.1 in
        let below : j < length (signalled_by (task_at graph t)) = few in absurd (omega arith)

pub signaller_starts : (job : Job) (t p j : ℕ) → IsGraph job.graph → t < length job.graph.tasks
    → index_in (signalled_by (task_at job.graph t)) p ≡ Some j → start_at job t ≡ 0
signaller_starts job t p j is there place =
    let stays : (task_at job.graph t).joins_now ≡ false =
    signaller_stays job.graph t p j is there place in rw stays refl

-- where a task that signals does not begin in phase 0, it is a child
begins : (job : Job) (t n : ℕ) → IsGraph job.graph → t < length job.graph.tasks
    → start_at job t ≡ 0 → n < (span_in job t).offset
    → (u : Parent) × ((task_at job.graph t).parent ≡ Some u) × Begins job t u
begins job t n is there first late =
    by (task_at job.graph t).parent refl (spans_all job t is there)
  where
    by : (parent : Option Parent) → (task_at job.graph t).parent ≡ parent
        → span_in job t ≡ span_at (task_at job.graph t) (length (samples_at job t)) (lengths_of job)
        (offset_of (spans_of job) (start_at job t) parent)
        → (u : Parent) × ((task_at job.graph t).parent ≡ Some u) × Begins job t u
    by None e is_at =
        let none : (span_in job t).offset ≡ 0 = ap (λ (s : Span). s.offset) is_at in
        absurd (omega arith)
    by (Some u) e is_at =
        live_case ((span_in job u.task).live && nat_le u.at (span_in job u.task).steps) refl is_at
      where
        live_case : (b : Bool)
            → ((span_in job u.task).live && nat_le u.at (span_in job u.task).steps) ≡ b
            → span_in job t ≡ span_at (task_at job.graph t) (length (samples_at job t))
            (lengths_of job)
            (if b then Some (max (start_at job t) ((span_in job u.task).offset + u.at)) else None)
            → (v : Parent) × ((task_at job.graph t).parent ≡ Some v) × Begins job t v
        live_case false dead at =
            let none : (span_in job t).offset ≡ 0 = ap (λ (s : Span). s.offset) at in
            absurd (omega arith)
        live_case true is_live at =
            let parts = and_parts _ _ is_live in
            let within : u.at ≤ (span_in job u.task).steps = grind (arith, nat_tests, parts.1) in (
              u,
              e,
              record {
                live = parts.0;
                offset = ap (λ (s : Span). s.offset) at
                    ∙ ap (λ n. max n ((span_in job u.task).offset + u.at)) first
                    ∙ zero-max ((span_in job u.task).offset + u.at);
                within = within;
              },
            )

-- a task that ends past phase n, or one that it descends from, has a value there
some_entry : (job : Job) (p n : ℕ) → IsGraph job.graph → (limit t : ℕ) → t < limit
    → t < length job.graph.tasks → n < end_of job.graph (spans_of job) p t
    → (u : ℕ) × HasEntry job p n u
some_entry job p n is zero t below there lt = absurd (omega arith)
some_entry job p n is (suc limit) t below there lt =
    by (cases_lt n (span_in job t).offset) (ends_from job p t n is there lt)
    (λ (u : ℕ) less within past. some_entry job p n is limit u (omega arith) within past)
  where
    by : (n < (span_in job t).offset) ⊎ ((span_in job t).offset ≤ n) → Ends job p t
        → ((u : ℕ) → u < t → u < length job.graph.tasks
        → n < end_of job.graph (spans_of job) p u → (v : ℕ) × HasEntry job p n v)
        → (v : ℕ) × HasEntry job p n v
    by (inr begun) ends rec = (t, entry_from job p n t there ends begun lt)
    by (inl late) ends rec =
        let child = begins job t n is there (signaller_starts job t p ends.output is there
        ends.signals) late in
        let u = child.0 in
        let from : Begins job t u = child.2 in
        let line : IsTaskLine job.graph t (task_at job.graph t) = is.tasks t there in
        let parent : IsParent job.graph t (task_at job.graph t) u =
        parent-is job.graph t (task_at job.graph t) u line child.1 in
        let above : u.task < t = parent.above in
        let within : u.task < length job.graph.tasks = omega arith in
        let on = parent_signals job.graph t (task_at job.graph t) u p ends.output parent
        ends.signals in
        let end = ends_there job p u.task on.0 is within from.live on.1 in
        let long = outputs_long job u.task on.0 is within
        (place-at (signalled_by (task_at job.graph u.task)) p on.0 on.1).0 in
        let steps = one_a_step (task_at job.graph u.task) (span_in job u.task).steps on.0
        parent.kind in
        let offset = from.offset in
        let few = from.within in
        rec u.task above within (omega arith)

-- a phaser's list is as long as its length says
pub length-list : (job : Job) (p : ℕ)
    → length (list_of_phaser job p) ≡ get_or (lengths_of job) p 0
length-list job p = length-map-range_with_len _ 0 (get_or (lengths_of job) p 0)

-- each phase of a list has an entry
pub phase_entry : (job : Job) (p n : ℕ) → IsGraph job.graph → p < length job.graph.phasers
    → n < length (list_of_phaser job p) → (t : ℕ) × HasEntry job p n t
phase_entry job p n is below lt =
    by (below_one (end_of job.graph (spans_of job) p) 0 0 (length job.graph.tasks) n
    (omega (arith, length-list job p, lengths_all job p is below)))
  where
    by : (n < 0) ⊎ ((t : ℕ) × (t < 0 + length job.graph.tasks)
        × (n < end_of job.graph (spans_of job) p t)) → (t : ℕ) × HasEntry job p n t
    by (inl none) = absurd (omega arith)
    by (inr found) =
        let below : found.0 < 0 + length job.graph.tasks = found.1 in
        some_entry job p n is (suc found.0) found.0 (omega arith) (omega arith) found.2

-- ---- tasks that meet

abbrev BothEnter : Job → ℕ → ℕ → ℕ → Type 0
BothEnter job t p u = (n : ℕ) × HasEntry job p n t × HasEntry job p n u

-- two tasks that signal in one phase, by where they begin and end
abbrev Overlaps : ℕ → ℕ → ℕ → ℕ → Type 0
Overlaps a ae b be = (a < ae) × (b < be) × (a < be) × (b < ae)

pub overlap_parts : (a ae b be : ℕ) → overlap a ae b be ≡ true → Overlaps a ae b be
overlap_parts a ae b be e =
    let three = and_parts (nat_lt a ae && nat_lt b be && nat_lt a be) (nat_lt b ae) e in
    let two = and_parts (nat_lt a ae && nat_lt b be) (nat_lt a be) three.0 in
    let one = and_parts (nat_lt a ae) (nat_lt b be) two.0 in (
      grind (arith, nat_tests, one.0),
      grind (arith, nat_tests, one.1),
      grind (arith, nat_tests, two.1),
      grind (arith, nat_tests, three.1),
    )

pub overlap_from : (a ae b be n : ℕ) → a ≤ n → n < ae → b ≤ n → n < be → overlap a ae b be ≡ true
overlap_from a ae b be n la ha lb hb =
    let one : nat_lt a ae ≡ true = grind (arith, nat_tests, la, ha) in
    let two : nat_lt b be ≡ true = grind (arith, nat_tests, lb, hb) in
    let three : nat_lt a be ≡ true = grind (arith, nat_tests, la, hb) in
    let four : nat_lt b ae ≡ true = grind (arith, nat_tests, lb, ha) in
    rw (one, two, three, four) refl

meet_entry : (job : Job) (t p u : ℕ) → IsGraph job.graph → t < length job.graph.tasks
    → u < length job.graph.tasks → meet_on job.graph (spans_of job) t p u ≡ true
    → BothEnter job t p u
meet_entry job t p u is first second e =
    let o = overlap_parts (span_in job t).offset (end_of job.graph (spans_of job) p t)
    (span_in job u).offset (end_of job.graph (spans_of job) p u) e in
    let one : (span_in job t).offset < end_of job.graph (spans_of job) p t = o.0 in
    let two : (span_in job u).offset < end_of job.graph (spans_of job) p u = o.1 in
    let three : (span_in job t).offset < end_of job.graph (spans_of job) p u = o.2 in
    let four : (span_in job u).offset < end_of job.graph (spans_of job) p t = o.3 in
    let n = max (span_in job t).offset (span_in job u).offset in (
      n,
      entry_from job p n t first (ends_from job p t _ is first one) (omega arith) (omega arith),
      entry_from job p n u second (ends_from job p u _ is second two) (omega arith) (omega arith),
    )

entry_meet : (job : Job) (t p u n : ℕ) → IsGraph job.graph → HasEntry job p n t
    → HasEntry job p n u → meet_on job.graph (spans_of job) t p u ≡ true
entry_meet job t p u n is one two =
    overlap_from (span_in job t).offset (end_of job.graph (spans_of job) p t)
    (span_in job u).offset (end_of job.graph (spans_of job) p u) n
    one.begun (entry_ends job p n t is one) two.begun (entry_ends job p n u is two)

pub meet_is : (job : Job) (t p u : ℕ) → IsGraph job.graph → t < length job.graph.tasks
    → u < length job.graph.tasks
    → (meet_on job.graph (spans_of job) t p u ≡ true) ↔ BothEnter job t p u
meet_is job t p u is first second =
    (λ e. meet_entry job t p u is first second e, λ b. entry_meet job t p u b.0 is b.1 b.2)

-- ---- on a phaser with `any`

pub find_none : (test : ℕ → Bool) (a n t : ℕ) → find test (range_with_len a n) ≡ None → a ≤ t
    → t < a + n → test t ≡ false
find_none test a zero t e low high = absurd (omega arith)
find_none test a (suc n) t e low high =
    by (test a) refl e (cases_lt a t)
    (λ f more. find_none test (a + 1) n t f (omega arith) (omega arith))
  where
    by : (b : Bool) → test a ≡ b
        → (if b then Some a else find test (range_with_len (a + 1) n)) ≡ None
        → (a < t) ⊎ (t ≤ a)
        → (find test (range_with_len (a + 1) n) ≡ None → a < t → test t ≡ false)
        → test t ≡ false
    by true is f c rec = absurd (cc)
    by false is f (inl more) rec = rec f more
    by false is f (inr here) rec = let same : t ≡ a = omega arith in ap test same ∙ is

pub any_none : (test : ℕ → Bool) (a n t : ℕ) → list_any test (range_with_len a n) ≡ false → a ≤ t
    → t < a + n → test t ≡ false
any_none test a zero t e low high = absurd (omega arith)
any_none test a (suc n) t e low high =
    let parts = or_parts (test a) (list_any test (range_with_len (a + 1) n)) e in
    by (cases_lt a t) parts.0 parts.1
    (λ f more. any_none test (a + 1) n t f (omega arith) (omega arith))
  where
    by : (a < t) ⊎ (t ≤ a) → test a ≡ false
        → list_any test (range_with_len (a + 1) n) ≡ false
        → (list_any test (range_with_len (a + 1) n) ≡ false → a < t → test t ≡ false)
        → test t ≡ false
    by (inl more) is f rec = rec f more
    by (inr here) is f rec = let same : t ≡ a = omega arith in ap test same ∙ is

pub no_line : (f : ℕ → ℕ) (o : Option ℕ) → option_map f o ≡ None → o ≡ None
no_line f None e = refl
no_line f (Some t) e = absurd (cc)

-- no task meets one above it
do_not_meet : (job : Job) (p t u : ℕ) → meeting_line job ≡ None → p < length job.graph.phasers
    → (phaser_at job.graph p).op ≡ Any → t < length job.graph.tasks → u < t
    → meet_on job.graph (spans_of job) t p u ≡ false
do_not_meet job p t u apart below any there above =
    let spans = spans_of job in
    let none = no_line (λ t. (task_at job.graph t).line)
    (find (meets_above job.graph spans) (range_with_len 0 (length job.graph.tasks))) apart in
    let here : meets_above job.graph spans t ≡ false =
    find_none (meets_above job.graph spans) 0 (length job.graph.tasks) t none (omega arith)
    (omega arith) in
    let on : meets_on job.graph spans t p ≡ false =
    any_none (meets_on job.graph spans t) 0 (length job.graph.phasers) p here (omega arith)
    (omega arith) in
    let is_one : is_any (phaser_at job.graph p).op ≡ true = ap is_any any in
    let one : list_any (meet_on job.graph spans t p) (range_with_len 0 t) ≡ false =
    ap (λ b. b && list_any (meet_on job.graph spans t p) (range_with_len 0 t)) (sym is_one) ∙ on in
    any_none (meet_on job.graph spans t p) 0 t u one (omega arith) (omega arith)

-- so one task alone has a value in a phase
pub entry_alone : (job : Job) (p n t u : ℕ) → IsGraph job.graph → meeting_line job ≡ None
    → p < length job.graph.phasers → (phaser_at job.graph p).op ≡ Any
    → HasEntry job p n t → HasEntry job p n u → t ≡ u
entry_alone job p n t u is apart below any one two = by (cases_order t u)
  where
    by : (t ≡ u) ⊎ ((t < u) ⊎ (u < t)) → t ≡ u
    by (inl same) = same
    by (inr (inl less)) =
        let none = do_not_meet job p u t apart below any two.there less in
        absurd (let b : true ≡ false = sym (entry_meet job u p t n is two one) ∙ none in cc)
    by (inr (inr more)) =
        let none = do_not_meet job p t u apart below any one.there more in
        absurd (let b : true ≡ false = sym (entry_meet job t p u n is one two) ∙ none in cc)
