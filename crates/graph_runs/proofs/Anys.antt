-- The value of a complete phase is that of what its tasks have sent in it: in any order, or because
-- one task alone has sent.
use Rattle.std.proofs.Common.{◌≡◌, ◌≢◌, ℕ, zero, suc, ◌+◌, ◌-◌, ◌<◌, ◌≤◌, Bool, true, false, ◌&&◌, ◌||◌, cond, eqb, leb, List, [], Option, Some, None, ℤ, length, refl, sym, ap, ◌∙◌, arith, ◌⊎◌, inl, inr}
use Rattle.std.specs.Prelude.{slice_get, if◌then◌else◌}
use Rattle.std.specs.List.{range_with_len, cons_option, list_any, find}
use Rattle.std.proofs.lemmas.Bool.{eqb-true, cases_lt, le-leb, lt-leb}
use Rattle.std.proofs.lemmas.Option.{same_Some, slice_get_within}
use Rattle.phase_accum.specs.Exchanges.{Exchanges}
use Rattle.phase_accum.proofs.Orders.{Exchanges-sum, Exchanges-product, Exchanges-least, Exchanges-greatest}
use Rattle.phase_history.specs.Histories.{History}
use Rattle.phase_history.specs.Phases.{sends_of_phase}
use Rattle.phase_base.specs.Lists.{is_in}
use Rattle.phase_history.specs.Sent.{sent_in, gathered, OnlySignalled, OneHasSent}
use Rattle.phase_history.proofs.Gathered.{sends_are_gathered}
use Rattle.phase_history.proofs.OneSender.{gathered_alone}
use Rattle.phase_history.proofs.Sendings.{sent_in-none}
use Rattle.phase_base.specs.declared.operation.Op.{Op}
use Rattle.phase_base.specs.declared.operation.Op.TheVariants.{Sum, Product, Least, Greatest, Any}
use Rattle.graph_base.specs.Graphs.{task_at, phaser_at}
use Rattle.graph_base.specs.TaskLines.{IsGraph}
use Rattle.stream_lists.specs.Jobs.{Job, index_in}
use Rattle.stream_lists.specs.Spans.{signalled_by, puts_on, spans_of, end_of, span_in, schedule_of}
use Rattle.stream_lists.specs.Lists.{Contribution, send_in, contribution_at, contribution_by, value_by, numbers_of, output_on}
use Rattle.stream_lists.specs.Meetings.{is_any, meet_on, meets_on, meets_above, meeting_line}
use Rattle.stream_lists.proofs.Ordered.{place-at}
use Rattle.stream_lists.proofs.ListLengths.{outputs_long}
use Rattle.stream_lists.proofs.EachPhase.{no_line, overlap_from, find_none, any_none}
use Rattle.graph_runs.specs.Moments.{Moment, numbers_on, limits_at, value_at, PhaserRan}
use Rattle.graph_runs.proofs.Composed.{Agrees}
use Rattle.graph_runs.proofs.Agreed.{AllAgree, agrees_at, sent_is, Found, found}
use Rattle.graph_runs.proofs.Numbers.{numbers_distinct}
use Rattle.graph_runs.proofs.Phasers.{AreGathered}
use Rattle.graph_runs.proofs.Started.{IsReadyAt}

-- ---- two members of a phaser with `any`

op_case : (op : Op) → Exchanges (value_by op) ⊎ (is_any op ≡ true)
op_case Sum = inl Exchanges-sum
op_case Product = inl Exchanges-product
op_case Least = inl Exchanges-least
op_case Greatest = inl Exchanges-greatest
op_case Any = inr refl

-- no task meets one above it
pub do_not_meet : (job : Job) (p t u : ℕ) → meeting_line job ≡ None → p < length job.graph.phasers
    → is_any (phaser_at job.graph p).op ≡ true
    → t < length job.graph.tasks → u < t → meet_on job.graph (spans_of job) t p u ≡ false
do_not_meet job p t u apart pp any there above =
    let spans = spans_of job in
    let none : find (meets_above job.graph spans) (range_with_len 0 (length job.graph.tasks))
    ≡ None = no_line (λ t. (task_at job.graph t).line) _ apart in
    let here : meets_above job.graph spans t ≡ false =
    find_none (meets_above job.graph spans) 0 (length job.graph.tasks) t none (omega arith)
    (omega arith) in
    let on : meets_on job.graph spans t p ≡ false =
    any_none (meets_on job.graph spans t) 0 (length job.graph.phasers) p here (omega arith)
    (omega arith) in
    let one : list_any (meet_on job.graph spans t p) (range_with_len 0 t) ≡ false =
    ap (λ b. b && list_any (meet_on job.graph spans t p) (range_with_len 0 t)) (sym any) ∙ on in
    any_none (meet_on job.graph spans t p) 0 t u one (omega arith) (omega arith)

-- what a member sends is within it
pub sends_within : (n : ℕ) (member : Contribution) (v : ℤ) → send_in n member ≡ Some v
    → (member.0 ≤ n) × (n < member.0 + length member.1)
sends_within n member v e = by (cases_lt n member.0)
  where
    by : (n < member.0) ⊎ (member.0 ≤ n) → (member.0 ≤ n) × (n < member.0 + length member.1)
    by (inl early) =
        let test : leb (suc n) member.0 ≡ true = le-leb (suc n) member.0 early in
        let none : None ≡ Some v =
        ap (λ b. cond b None (slice_get member.1 (n - member.0))) (sym test) ∙ e in
        absurd (cc)
    by (inr later) =
        let test : leb (suc n) member.0 ≡ false = lt-leb (suc n) member.0 (omega arith) in
        let some : slice_get member.1 (n - member.0) ≡ Some v =
        ap (λ b. cond b None (slice_get member.1 (n - member.0))) (sym test) ∙ e in
        (later, omega (arith, slice_get_within member.1 (n - member.0) v some))

-- a task that sends in phase n signals it
pub signals_at : (job : Job) (p t n : ℕ) (member : Contribution) (v : ℤ) → IsGraph job.graph
    → t < length job.graph.tasks
    → contribution_at job (schedule_of job) (numbers_of job) p t ≡ Some member → send_in n member ≡ Some v
    → ((span_in job t).offset ≤ n) × (n < end_of job.graph (spans_of job) p t)
signals_at job p t n member v is there at sends =
    by (index_in (signalled_by (task_at job.graph t)) p) refl at
  where
    by : (place : Option ℕ) → index_in (signalled_by (task_at job.graph t)) p ≡ place
        → contribution_by job (schedule_of job) (numbers_of job) t place ≡ Some member
        → ((span_in job t).offset ≤ n) × (n < end_of job.graph (spans_of job) p t)
    by None e found = absurd (cc)
    by (Some j) e found = live_case ((span_in job t).live) refl found
      where
        live_case : (b : Bool) → (span_in job t).live ≡ b
            → (if b then Some (
              (span_in job t).offset,
              output_on job (schedule_of job) (numbers_of job) t
                  j,
            ) else None) ≡ Some member
            → ((span_in job t).offset ≤ n) × (n < end_of job.graph (spans_of job) p t)
        live_case false dead found = absurd (cc)
        live_case true live found =
            let out : Contribution =
            ((span_in job t).offset, output_on job (schedule_of job) (numbers_of job) t j) in
            let same : out ≡ member = same_Some _ _ found in
            let w : ((span_in job t).offset ≤ n)
            × (n < (span_in job t).offset + length
            (output_on job (schedule_of job) (numbers_of job) t j)) =
            sends_within n out v (ap (λ x. send_in n x) same ∙ sends) in
            let long : length (output_on job (schedule_of job) (numbers_of job) t j)
            ≡ puts_on (task_at job.graph t) (span_in job t).steps j =
            outputs_long job t j is there (place-at (signalled_by (task_at job.graph t)) p j e).0 in
            let ends : end_of job.graph (spans_of job) p t
            ≡ (span_in job t).offset + puts_on (task_at job.graph t) (span_in job t).steps j =
            rw (e, live) refl in
            let low : (span_in job t).offset ≤ n = w.0 in
            let high : n
            < (span_in job t).offset + length
            (output_on job (schedule_of job) (numbers_of job) t j) = w.1 in
            (low, omega arith)

pub in_range : (t a n : ℕ) → is_in t (range_with_len a n) ≡ true → t < a + n
in_range t a zero e = absurd (cc)
in_range t a (suc n) e =
    elim (eqb a t) as (λ b. (eqb a t ≡ b) → (b || is_in t (range_with_len (a + 1) n)) ≡ true
    → t < a + suc n) [
      | true ↦ λ s f. let same : a ≡ t = eqb-true _ _ s in omega arith
      | false ↦ λ s f. let r : t < a + 1 + n = in_range t (a + 1) n f in omega arith
    ] refl e

-- ---- the phaser

pub are_gathered : (job : Job) (m : Moment) (p : ℕ) → IsReadyAt job m → p < length job.graph.phasers
    → PhaserRan job m p
    → AllAgree (m.history p) (m.number p) (contribution_at job (schedule_of job) (numbers_of job) p)
    (range_with_len 0 (length job.graph.tasks))
    → AreGathered job m p
are_gathered job m p ready pp ran agree n below = by (op_case (phaser_at job.graph p).op)
  where
    h : History
    h = m.history p

    ts : List ℕ
    ts = range_with_len 0 (length job.graph.tasks)

    only : OnlySignalled (numbers_on job m p) (m.history p)
    only = λ t none. (ran.strangers t none).nothing

    -- the task of a number that has sent
    signals : (a : ℕ) → (f : Found (m.number p) (range_with_len 0 (length job.graph.tasks)) a)
        → sent_in (m.history p) a n ≢ []
        → (f.0 < length job.graph.tasks) × ((span_in job f.0).offset ≤ n)
        × (n < end_of job.graph (spans_of job) p f.0)
    signals a f some =
        let there : f.0 < 0 + length job.graph.tasks =
        in_range f.0 0 (length job.graph.tasks) f.1 in
        let a_is : Agrees (m.history p) (Some a)
        (contribution_at job (schedule_of job) (numbers_of job) p f.0) =
        rw f.2 at (agrees_at (m.history p) (m.number p) (contribution_at job (schedule_of job) (numbers_of job) p)
        (range_with_len 0 (length job.graph.tasks)) f.0 f.1 agree) in
        member_case f.0 (omega arith) (contribution_at job (schedule_of job) (numbers_of job) p f.0) refl
        a_is
      where
        member_case : (t : ℕ) → t < length job.graph.tasks → (o : Option Contribution)
            → contribution_at job (schedule_of job) (numbers_of job) p t ≡ o
            → Agrees (m.history p) (Some a) o
            → (t < length job.graph.tasks) × ((span_in job t).offset ≤ n)
            × (n < end_of job.graph (spans_of job) p t)
        member_case t there None e silent =
            absurd (some (sent_in-none (m.history p) a n silent.nothing))
        member_case t there (Some member) e has =
            let sent : sent_in (m.history p) a n ≡ cons_option (send_in n member) [] =
            sent_is (limits_at job p) (m.history p) a member n ran.legal below has in
            send_case (send_in n member) refl sent
          where
            send_case : (o : Option ℤ) → send_in n member ≡ o
                → sent_in (m.history p) a n ≡ cons_option o []
                → (t < length job.graph.tasks) × ((span_in job t).offset ≤ n)
                × (n < end_of job.graph (spans_of job) p t)
            send_case None s sent = absurd (some sent)
            send_case (Some v) s sent =
                let r = signals_at job p t n member v ready.graph there e s in (there, r.0, r.1)

    meet : (t u : ℕ) → is_any (phaser_at job.graph p).op ≡ true → u < t
        → (t < length job.graph.tasks) × ((span_in job t).offset ≤ n)
        × (n < end_of job.graph (spans_of job) p t)
        → (u < length job.graph.tasks) × ((span_in job u).offset ≤ n)
        × (n < end_of job.graph (spans_of job) p u) → ⊥
    meet t u any above one other =
        let no : meet_on job.graph (spans_of job) t p u ≡ false =
        do_not_meet job p t u ready.apart pp any one.0 above in
        let yes : meet_on job.graph (spans_of job) t p u ≡ true =
        overlap_from (span_in job t).offset (end_of job.graph (spans_of job) p t)
        (span_in job u).offset (end_of job.graph (spans_of job) p u) n one.1 one.2 other.1
        other.2 in
        (let e : true ≡ false = sym yes ∙ no in cc)

    one : is_any (phaser_at job.graph p).op ≡ true → OneHasSent (m.history p) (numbers_on job m p) n
    one any a b ia ib sa sb =
        let fa = found (m.number p) (range_with_len 0 (length job.graph.tasks)) a ia in
        let fb = found (m.number p) (range_with_len 0 (length job.graph.tasks)) b ib in
        order fa fb (signals a fa sa) (signals b fb sb) (cases_lt fa.0 fb.0) (cases_lt fb.0 fa.0)
      where
        order : (fa : Found (m.number p) (range_with_len 0 (length job.graph.tasks)) a)
            → (fb : Found (m.number p) (range_with_len 0 (length job.graph.tasks)) b)
            → (fa.0 < length job.graph.tasks) × ((span_in job fa.0).offset ≤ n)
            × (n < end_of job.graph (spans_of job) p fa.0)
            → (fb.0 < length job.graph.tasks) × ((span_in job fb.0).offset ≤ n)
            × (n < end_of job.graph (spans_of job) p fb.0)
            → (fa.0 < fb.0) ⊎ (fb.0 ≤ fa.0) → (fb.0 < fa.0) ⊎ (fa.0 ≤ fb.0) → a ≡ b
        order fa fb ra rb (inl less) d = absurd (meet fb.0 fa.0 any less rb ra)
        order fa fb ra rb (inr most) (inl more) = absurd (meet fa.0 fb.0 any more ra rb)
        order fa fb ra rb (inr most) (inr least) =
            let same : fa.0 ≡ fb.0 = omega arith in
            same_Some a b (sym fa.2 ∙ ap (λ t. m.number p t) same ∙ fb.2)

    by : Exchanges (value_by (phaser_at job.graph p).op)
        ⊎ (is_any (phaser_at job.graph p).op ≡ true)
        → value_at job p (sends_of_phase (m.history p) n)
        ≡ value_at job p (gathered (m.history p) (numbers_on job m p) n)
    by (inl swaps) =
        sends_are_gathered (value_at job p) (m.history p) (numbers_on job m p) n swaps
        (numbers_distinct job m p ran) only
    by (inr any) =
        ap (value_at job p)
        (gathered_alone (m.history p) (numbers_on job m p) n (numbers_distinct job m p ran) only
        (one any))
