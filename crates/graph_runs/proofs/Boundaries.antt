-- A task that owes no value: what it has taken and put, and whether it may begin its next step.
use Rattle.std.proofs.Common.{◌≡◌, ℕ, zero, suc, ◌+◌, ◌<◌, ◌≤◌, Bool, true, false, not, ◌&&◌, eqb, List, [], ◌∷◌, Option, Some, None, is_some, length, refl, sym, ap, subst, ◌∙◌, arith, ◌⊎◌, inl, inr}
use Rattle.std.specs.Prelude.{nat_le}
use Rattle.std.proofs.lemmas.Bool.{ltb-false, leb-false, le-leb, eq-eqb, cases_lt}
use Rattle.phase_base.specs.Members.{signal_phases, least}
use Rattle.phase_history.specs.Histories.{members_of, done_of}
use Rattle.phase_history.proofs.Received.{none_from}
use Rattle.graph_base.specs.declared.line.Kind.{Kind}
use Rattle.graph_base.specs.declared.line.Kind.TheVariants.{Source, Fir, Split, Decimate, Join, Peer, Sink}
use Rattle.graph_base.specs.Graphs.{task_at}
use Rattle.graph_base.specs.TaskLines.{IsGraph}
use Rattle.graph_base.proofs.Registered.{registrations-phasers}
use Rattle.stream_lists.specs.Jobs.{Job, samples_at}
use Rattle.stream_lists.specs.Spans.{signalled_by, takes_from, puts_on, LooksAt}
use Rattle.stream_lists.proofs.EachPhase.{find_none}
use Rattle.graph_runs.specs.Moments.{Moment, TaskRan, HasEnded, HasTaken, HasSamples, AtMost, MayStop, at_until, no_sample, no_input, RanOut, made_now, taken_now, first_input, input_at}
use Rattle.graph_runs.proofs.Entries.{prefix_whole}
use Rattle.graph_runs.proofs.OutputLists.{length_made}
use Rattle.graph_runs.proofs.StepsLemmas.{taken_count}
use Rattle.graph_runs.proofs.Tasks.{now_counts}
use Rattle.graph_runs.specs.Moves.{MayBegin, NoneDue}
use Rattle.graph_runs.specs.Nexts.{is_owed, first_owed, first_missing, first_due, is_due, comes_by, is_cut, has_input_ended, has_run_out, has_signaller, number_on}
use Rattle.graph_runs.proofs.PlacesLemmas.{numbered}

-- ---- what it has put and taken

pub all_put : (job : Job) (m : Moment) (t : ℕ) → TaskRan job m t → t < length job.graph.tasks
    → first_owed job m t ≡ None → (j : ℕ) → j < length (signalled_by (task_at job.graph t))
    → m.put t j ≡ made_now job m t j
all_put job m t ran there none j lt =
    let n = length (signalled_by (task_at job.graph t)) in
    let no_more : is_owed job m t j ≡ false =
    find_none (is_owed job m t) 0 n j none (omega arith) (omega arith) in
    let le : length (made_now job m t j) ≤ length (m.put t j) =
    ltb-false (length (m.put t j)) (length (made_now job m t j)) no_more in
    prefix_whole (m.put t j) (made_now job m t j) (ran.puts j lt) le

pub made_many : (job : Job) (m : Moment) (t j : ℕ) → IsGraph job.graph → TaskRan job m t
    → t < length job.graph.tasks → j < length (signalled_by (task_at job.graph t))
    → length (made_now job m t j) ≡ puts_on (task_at job.graph t) (m.begun t) j
made_many job m t j is ran there lt =
    let line = is.tasks t there in
    length_made (samples_at job t) (task_at job.graph t) (taken_now m (task_at job.graph t) t)
    (m.begun t) j line.ends lt ran.samples
    (now_counts job m t line ran)

pub peer_ends : (job : Job) (t : ℕ) → IsGraph job.graph → t < length job.graph.tasks
    → (task_at job.graph t).kind ≡ Peer
    → (length (task_at job.graph t).inputs ≡ 2)
    × (length (signalled_by (task_at job.graph t)) ≡ 2)
peer_ends job t is there e =
    let both : (length (task_at job.graph t).inputs ≡ 2)
    × (length (task_at job.graph t).outputs ≡ 1) = rw e at (is.tasks t there).ends in
    let two : length (signalled_by (task_at job.graph t)) ≡ 2 = rw e refl in
    (both.0, two)

pub all_taken : (job : Job) (m : Moment) (t : ℕ) → IsGraph job.graph → TaskRan job m t
    → t < length job.graph.tasks → first_owed job m t ≡ None
    → (k : ℕ) → k < length (task_at job.graph t).inputs
    → length (m.taken t k) ≡ takes_from (task_at job.graph t) (m.begun t) k
all_taken job m t is ran there none k lt = by (task_at job.graph t).kind k refl refl
  where
    exact : LooksAt (task_at job.graph t).kind 0 k
        → length (m.taken t k) ≡ takes_from (task_at job.graph t) (m.begun t) k
    exact looks =
        taken_count (task_at job.graph t) (m.begun t) k (length (m.taken t k))
        (is.tasks t there).ends lt looks (ran.takes k lt)

    peer : (task_at job.graph t).kind ≡ Peer → k ≡ 1
        → length (m.taken t k) ≡ takes_from (task_at job.graph t) (m.begun t) k
    peer e at =
        let ends = peer_ends job t is there e in
        let two : length (signalled_by (task_at job.graph t)) ≡ 2 = ends.1 in
        let below : 1 < length (signalled_by (task_at job.graph t)) = omega arith in
        let plain : puts_on (task_at job.graph t) (m.begun t) 1 ≡ m.begun t = rw e refl in
        let long : length (m.put t 1) ≡ m.begun t =
        ap length (all_put job m t ran there none 1 below)
        ∙ made_many job m t 1 is ran there below ∙ plain in
        let low : length (m.put t 1) ≤ length (m.taken t 1) =
        rw e at (ran.exchanged 1) in
        let K : ℕ → Type 0 =
        λ i. HasTaken (task_at job.graph t) (m.begun t) i (length (m.taken t i)) in
        let has : (length (m.taken t 1) ≤ m.begun t) × (m.begun t ≤ length (m.taken t 1) + 1) =
        rw e at (subst K at (ran.takes k lt)) in
        let high : length (m.taken t 1) ≤ m.begun t = has.0 in
        let takes : takes_from (task_at job.graph t) (m.begun t) k ≡ m.begun t = rw e refl in
        let here : length (m.taken t k) ≡ length (m.taken t 1) =
        ap (λ i. length (m.taken t i)) at in
        omega arith

    by : (kind : Kind) (i : ℕ) → (task_at job.graph t).kind ≡ kind → k ≡ i
        → length (m.taken t k) ≡ takes_from (task_at job.graph t) (m.begun t) k
    by Source i e at = exact (rw e tt)
    by Fir i e at = exact (rw e tt)
    by Split i e at = exact (rw e tt)
    by Decimate i e at = exact (rw e tt)
    by Join i e at = exact (rw e tt)
    by Sink i e at = exact (rw e tt)
    by Peer zero e at = exact (rw e at)
    by Peer (suc i) e at =
        peer e (omega (arith, (peer_ends job t is there e).0))

-- ---- no child is due

pub none_due : (job : Job) (m : Moment) (t p : ℕ) → IsGraph job.graph → TaskRan job m t
    → t < length job.graph.tasks → first_due job m t ≡ None → NoneDue job m t p
none_due job m t p is ran there none c n u below parent of_t at absent on =
    by (cases_lt (m.begun t) u.at)
  where
    early : m.begun t ≤ u.at
    early =
        rw of_t at (ran.children c p n u below parent of_t at absent on).early

    not_due : is_due job m t c ≡ false
    not_due =
        find_none (is_due job m t) 0 (length job.graph.tasks) c none (omega arith) (omega arith)

    comes : u.at ≡ m.begun t → comes_by t (m.begun t) (task_at job.graph c).parent ≡ true
    comes same =
        ap (λ o. comes_by t (m.begun t) o) parent
        ∙ ap (λ b. b && eqb u.at (m.begun t)) (eq-eqb u.task t of_t)
        ∙ eq-eqb u.at (m.begun t) same

    clash : u.at ≡ m.begun t → ⊥
    clash same =
        let all : is_some (first_missing job m c) ≡ false =
        sym (ap (λ b. b && is_some (first_missing job m c)) (comes same)) ∙ not_due in
        let line = is.tasks c below in
        let there : m.number p c ≡ Some (number_on m c p) =
        numbered job m c p line (registrations-phasers job.graph c (task_at job.graph c) line)
        (none_from (first_missing job m c) all) on in
        (let wrong : Some (number_on m c p) ≡ None = sym there ∙ absent in cc)

    by : (m.begun t < u.at) ⊎ (u.at ≤ m.begun t) → m.begun t < u.at
    by (inl lt) = lt
    by (inr ge) = let le : m.begun t ≤ u.at = early in absurd (clash (omega arith))

-- ---- the end

pub one_more : (until : Option ℕ) (b : ℕ) → is_cut until b ≡ false → AtMost b until
    → AtMost (suc b) until
one_more None b e le = tt
one_more (Some until) b e le = by (cases_lt b until)
  where
    by : (b < until) ⊎ (until ≤ b) → suc b ≤ until
    by (inl lt) = omega arith
    by (inr ge) =
        let same : until ≡ b = omega arith in
        absurd (let wrong : true ≡ false = sym (eq-eqb until b same) ∙ e in cc)

more_samples : (job : Job) (m : Moment) (t : ℕ) (kind : Kind)
    → has_input_ended job m t kind ≡ false
    → HasSamples kind (suc (m.begun t)) (length (samples_at job t))
more_samples job m t Source e =
    omega (arith, leb-false (length (samples_at job t)) (m.begun t) e)
more_samples job m t Fir e = tt
more_samples job m t Split e = tt
more_samples job m t Decimate e = tt
more_samples job m t Join e = tt
more_samples job m t Peer e = tt
more_samples job m t Sink e = tt

-- the task begins its next step where nothing is owed, no child is due, and it is not at its end
pub may_begin : (job : Job) (m : Moment) (t : ℕ) → IsGraph job.graph → TaskRan job m t
    → t < length job.graph.tasks → first_owed job m t ≡ None → first_due job m t ≡ None
    → is_cut (task_at job.graph t).until (m.begun t) ≡ false
    → has_input_ended job m t (task_at job.graph t).kind ≡ false → MayBegin job m t
may_begin job m t is ran there none due uncut more = record {
  taken = λ k lt. all_taken job m t is ran there none k lt;
  cut = one_more (task_at job.graph t).until (m.begun t) uncut ran.cut;
  samples = more_samples job m t (task_at job.graph t).kind more;
  children = λ p. none_due job m t p is ran there due;
}

silent : (h_phases : List ℕ) → h_phases ≡ [] → not (is_some (least h_phases)) ≡ true
silent [] e = refl
silent (x ∷ xs) e = absurd (cc)

pub no_signaller : (phases : List ℕ) → not (is_some (least phases)) ≡ true → phases ≡ []
no_signaller [] e = refl
no_signaller (x ∷ xs) e = absurd (cc)

and_true : (a b : Bool) → a ≡ true → b ≡ true → (a && b) ≡ true
and_true true b e f = f
and_true false b e f = absurd (cc)

ended_true : (job : Job) (m : Moment) (t : ℕ) (kind : Kind) → (kind ≡ Source → ⊥)
    → has_run_out m (task_at job.graph t) t
    (first_input (task_at job.graph t) (m.begun t)) ≡ true
    → has_input_ended job m t kind ≡ true
ended_true job m t Source never e = absurd (never refl)
ended_true job m t Fir never e = e
ended_true job m t Split never e = e
ended_true job m t Decimate never e = e
ended_true job m t Join never e = e
ended_true job m t Peer never e = e
ended_true job m t Sink never e = e

run_out : (m : Moment) (job : Job) (t k : ℕ) → RanOut m (task_at job.graph t) t k
    → has_run_out m (task_at job.graph t) t k ≡ true
run_out m job t k out =
    let h = m.history (input_at (task_at job.graph t) k) in
    and_true (not (has_signaller h)) (nat_le (done_of h) (m.offset t + length (m.taken t k)))
    (silent (signal_phases (members_of h)) out.0)
    (le-leb (done_of h) (m.offset t + length (m.taken t k)) out.1)

-- and it has not ended then
pub goes_on : (job : Job) (m : Moment) (t : ℕ)
    → is_cut (task_at job.graph t).until (m.begun t) ≡ false
    → has_input_ended job m t (task_at job.graph t).kind ≡ false → HasEnded job m t → ⊥
goes_on job m t uncut more ended = by ended.may_end
  where
    by : MayStop m (task_at job.graph t) t (length (samples_at job t)) → ⊥
    by (at_until e) =
        let cut : is_cut (task_at job.graph t).until (m.begun t) ≡ true =
        ap (λ o. is_cut o (m.begun t)) e ∙ eq-eqb (m.begun t) (m.begun t) refl in
        (let wrong : true ≡ false = sym cut ∙ uncut in cc)
    by (no_sample source le) =
        let over : has_input_ended job m t (task_at job.graph t).kind ≡ true =
        ap (λ kind. has_input_ended job m t kind) source
        ∙ le-leb (length (samples_at job t)) (m.begun t) le in
        (let wrong : true ≡ false = sym over ∙ more in cc)
    by (no_input never out) =
        let over : has_input_ended job m t (task_at job.graph t).kind ≡ true =
        ended_true job m t (task_at job.graph t).kind never
        (run_out m job t (first_input (task_at job.graph t) (m.begun t)) out) in
        (let wrong : true ≡ false = sym over ∙ more in cc)
