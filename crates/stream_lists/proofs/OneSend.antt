-- What is sent in a phase, task by task.
use Rattle.std.proofs.Common.{◌≡◌, ◌≢◌, ℕ, zero, suc, ◌+◌, ◌-◌, ◌<◌, ◌≤◌, ◌⊎◌, inl, inr, Bool, true, false, List, [], ◌∷◌, length, ℤ, pos, Some, None, refl, sym, ap, ◌∙◌, arith}
use Rattle.std.specs.Prelude.{Option, nat_lt, if◌then◌else◌, slice_get}
use Rattle.std.specs.List.{range_with_len, filter_map, cons_option}
use Rattle.std.proofs.lemmas.Bool.{cases_lt, cases_eq}
use Rattle.std.proofs.lemmas.Bool.Decides.{nat_tests}
use Rattle.std.proofs.lemmas.Option.{slice_get-get_or, slice_get_within}
use Rattle.graph_base.specs.Graphs.{task_at, phaser_at}
use Rattle.graph_base.specs.TaskLines.{IsGraph}
use Rattle.phase_base.specs.declared.operation.Op.TheVariants.{Any}
use Rattle.stream_lists.specs.Jobs.{Job, index_in}
use Rattle.stream_lists.specs.Spans.{signalled_by, span_in, schedule_of}
use Rattle.stream_lists.specs.Lists.{Contribution, entry, contribution_at, contribution_by, send_in, sends_in, numbers_of}
use Rattle.stream_lists.specs.Meetings.{meeting_line}
use Rattle.stream_lists.specs.Entries.{output_values, sends_at, HasEntry}
use Rattle.stream_lists.proofs.EachPhase.{member_where, entry_alone}

-- ---- what a list of tasks sends

-- what a member sends in phase n, where there is a member
abbrev sent_by : ℕ → Option Contribution → Option ℤ
sent_by n None = None
sent_by n (Some member) = send_in n member

sends_each : (n : ℕ) (at : ℕ → Option Contribution) (ts : List ℕ)
    → sends_in (filter_map at ts) n ≡ filter_map (λ t. sent_by n (at t)) ts
sends_each n at [] = refl
sends_each n at (t ∷ ts) = by (at t) (sends_each n at ts)
  where
    by : (o : Option Contribution) → sends_in (filter_map at ts) n ≡ filter_map (λ t. sent_by n (at t)) ts
        → sends_in (cons_option o (filter_map at ts)) n
        ≡ cons_option (sent_by n o) (filter_map (λ t. sent_by n (at t)) ts)
    by None rest = rest
    by (Some member) rest = ap (λ l. cons_option (send_in n member) l) rest

all_none : (h : ℕ → Option ℤ) (a m : ℕ) → ((u : ℕ) → a ≤ u → u < a + m → h u ≡ None)
    → filter_map h (range_with_len a m) ≡ []
all_none h a zero none = refl
all_none h a (suc m) none =
    let rest = all_none h (a + 1) m (λ u low high. none u (omega arith) (omega arith)) in
    rw (none a (omega arith) (omega arith)) rest

-- where one task alone sends, its value is all that is sent
one_alone : (h : ℕ → Option ℤ) (a m t : ℕ) (v : ℤ) → a ≤ t → t < a + m → h t ≡ Some v
    → ((u : ℕ) → a ≤ u → u < a + m → u ≢ t → h u ≡ None)
    → filter_map h (range_with_len a m) ≡ v ∷ []
one_alone h a zero t v low high here others = absurd (omega arith)
one_alone h a (suc m) t v low high here others =
    by (cases_eq a t)
    (λ later. one_alone h (a + 1) m t v later (omega arith) here
    (λ u from to apart. others u (omega arith) (omega arith) apart))
  where
    by : (a ≡ t) ⊎ (a ≡ t → ⊥)
        → (a + 1 ≤ t → filter_map h (range_with_len (a + 1) m) ≡ v ∷ [])
        → filter_map h (range_with_len a (suc m)) ≡ v ∷ []
    by (inl same) rec =
        let first : h a ≡ Some v = ap h same ∙ here in
        let rest = all_none h (a + 1) m
        (λ u from to. others u (omega arith) (omega arith) (λ e. omega arith)) in
        rw first (ap (λ l. v ∷ l) rest)
    by (inr other) rec =
        let none : h a ≡ None = others a (omega arith) (omega arith) other in
        rw none (rec (split (cases_lt a t)))
      where
        split : (a < t) ⊎ (t ≤ a) → a + 1 ≤ t
        split (inl less) = omega arith
        split (inr most) = absurd (other (omega arith))

-- ---- what a task sends

-- a member sends in a phase from its first to its last
send_within : (n offset : ℕ) (list : List ℤ) (v : ℤ) → send_in n (offset, list) ≡ Some v
    → (offset ≤ n) × (n < offset + length list)
send_within n offset list v e = by (cases_lt n offset)
  where
    by : (n < offset) ⊎ (offset ≤ n) → (offset ≤ n) × (n < offset + length list)
    by (inl early) =
        let test : nat_lt n offset ≡ true = grind (arith, nat_tests, early) in
        let none : None ≡ Some v =
        ap (λ b. if b then None else slice_get list (n - offset)) (sym test) ∙ e in
        absurd (cc)
    by (inr later) =
        let test : nat_lt n offset ≡ false = grind (arith, nat_tests, later) in
        let some : slice_get list (n - offset) ≡ Some v =
        ap (λ b. if b then None else slice_get list (n - offset)) (sym test) ∙ e in
        let below = slice_get_within list (n - offset) v some in
        (later, omega arith)

send_there : (n offset : ℕ) (list : List ℤ) → offset ≤ n → n < offset + length list
    → send_in n (offset, list) ≡ Some (entry list (n - offset))
send_there n offset list low high =
    let test : nat_lt n offset ≡ false = grind (arith, nat_tests, low) in
    rw test (slice_get-get_or list (n - offset) (pos 0) (omega arith))

-- a task sends in phase n exactly where it has a value there
abbrev sent_in : Job → ℕ → ℕ → ℕ → Option ℤ
sent_in job p n t = sent_by n (contribution_at job (schedule_of job) (numbers_of job) p t)

entry_sent : (job : Job) (p n t : ℕ) → (has : HasEntry job p n t)
    → sent_in job p n t
    ≡ Some (entry (output_values job t has.output) (n - (span_in job t).offset))
entry_sent job p n t has =
    let list = output_values job t has.output in
    let offset = (span_in job t).offset in
    let member : contribution_at job (schedule_of job) (numbers_of job) p t ≡ Some (offset, list) =
    ap (contribution_by job (schedule_of job) (numbers_of job) t) has.signals
    ∙ ap (λ b. member_where b offset list) has.live in
    ap (sent_by n) member ∙ send_there n offset list has.begun has.reaches

sent_entry : (job : Job) (p n t : ℕ) (v : ℤ) → t < length job.graph.tasks
    → sent_in job p n t ≡ Some v → HasEntry job p n t
sent_entry job p n t v there e =
    by (index_in (signalled_by (task_at job.graph t)) p) refl e
  where
    by : (o : Option ℕ) → index_in (signalled_by (task_at job.graph t)) p ≡ o
        → sent_by n (contribution_by job (schedule_of job) (numbers_of job) t o) ≡ Some v
        → HasEntry job p n t
    by None at f = absurd (cc)
    by (Some j) at f = live_case (span_in job t).live refl f
      where
        live_case : (b : Bool) → (span_in job t).live ≡ b
            → sent_by n (member_where b (span_in job t).offset (output_values job t j)) ≡ Some v
            → HasEntry job p n t
        live_case false dead g = absurd (cc)
        live_case true live g =
            let within = send_within n (span_in job t).offset (output_values job t j) v g in
            record {
              there = there;
              live = live;
              output = j;
              signals = at;
              begun = within.0;
              reaches = within.1;
            }

-- ---- on a phaser with `any`

-- in each phase of its list one value is sent, that of the task which has one there
pub one_send : (job : Job) (p n t : ℕ) → IsGraph job.graph → meeting_line job ≡ None
    → p < length job.graph.phasers → (phaser_at job.graph p).op ≡ Any
    → (has : HasEntry job p n t)
    → sends_at job p n
    ≡ entry (output_values job t has.output) (n - (span_in job t).offset) ∷ []
one_send job p n t is apart below any has =
    sends_each n (contribution_at job (schedule_of job) (numbers_of job) p)
    (range_with_len 0 (length job.graph.tasks))
    ∙ one_alone (sent_in job p n) 0 (length job.graph.tasks) t _ (omega arith)
    (omega (arith, has.there)) (entry_sent job p n t has)
    (λ u from to other. by u (omega arith) other (sent_in job p n u) refl)
  where
    by : (u : ℕ) → u < length job.graph.tasks → u ≢ t → (o : Option ℤ)
        → sent_in job p n u ≡ o → sent_in job p n u ≡ None
    by u there other None e = e
    by u there other (Some v) e =
        absurd (other (entry_alone job p n u t is apart below any (sent_entry job p n u v there e)
        has))
