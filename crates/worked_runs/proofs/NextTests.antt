-- Tests of the next event of a task, where it is of one step.
use Rattle.std.proofs.Common.{◌≡◌, ℕ, zero, suc, ◌+◌, ◌<◌, ◌≤◌, Bool, true, false, ◌||◌, cond, eqb, eq-eqb, List, [], ◌∷◌, ◌++◌, Option, Some, None, is_some, is_none, ℤ, pos, length, map, get_or, take, drop, unsigned_abs, refl, sym, ◌∙◌, ap, arith, inl, inr}
use Rattle.std.specs.List.{position_from}
use Rattle.phase_base.specs.Modes.{mode_signals, mode_waits}
use Rattle.phase_base.specs.Members.{signal_phases}
use Rattle.phase_base.specs.declared.mode.Mode.{Mode}
use Rattle.phase_accum.specs.declared.outcome.Outcome.{Outcome}
use Rattle.phase_accum.specs.Sends.{value_max}
use Rattle.phase_history.specs.Legal.{AreLists}
use Rattle.phase_history.specs.Histories.{members_of, done_of, wait_phase, has_dropped}
use Rattle.phase_history.specs.Phases.{stream_of, received_by}
use Rattle.phase_history.specs.Refusals.{register_refusal, signal_refusal, wait_refusal, drop_refusal}
use Rattle.graph_base.specs.declared.line.Kind.{Kind}
use Rattle.graph_base.specs.declared.line.Kind.TheVariants.{Source, Fir, Split, Decimate, Join, Peer, Sink}
use Rattle.graph_base.specs.declared.line.Parent.{Parent}
use Rattle.graph_base.specs.Graphs.{Task, task_at, phaser_at, is_source}
use Rattle.graph_base.specs.TaskLines.{IsGraph}
use Rattle.stream_lists.specs.Jobs.{Job, samples_at, index_in}
use Rattle.stream_lists.specs.Spans.{signalled_by, takes_from}
use Rattle.stream_lists.proofs.Ordered.{place-at}
use Rattle.graph_runs.specs.Moments.{one, Moment, HasRun, limits_at, value_at, input_at, made_now, first_input, OnLine, AtMost, HasSamples, HasExchanged, HasEnded, MayStop, at_until, no_sample, no_input, RanOut}
use Rattle.graph_runs.proofs.OnLines.{on_phaser}
use Rattle.graph_runs.specs.Moves.{IsStaying, NoneDue, NoneBefore, MayBegin, MayBeginTo}
use Rattle.graph_runs.specs.Turned.{IsAcceptedSignals, IsAcceptedSignal, IsNextSignal, IsNextSample, IsAnsweredWaits, IsAnsweredWait, IsFirstWait, IsExchangeWait, IsNextLeave, IsNextChild}
use Rattle.stream_lists.proofs.Basics.{source_kind}
use Rattle.worked_runs.specs.Runs.{IsThere}
use Rattle.worked_runs.proofs.Tests as test
use Rattle.worked_runs.proofs.Tests.{Test, Both, never, always, giving, both, either, each, when_some, where_so}

-- what a test of a task's event may use
pub record Given (job : Job) (m : Moment) (t p : ℕ) : Type 0 where
  pub graph : IsGraph job.graph
  pub ran : HasRun job m
  pub there : IsThere job t p

pub within : (job : Job) (m : Moment) (t p q n : ℕ) → Given job m t p → m.number q t ≡ Some n
    → q < length job.graph.phasers
within job m t p q n g at =
    on_phaser job t q g.graph g.there.task ((g.ran.tasks t g.there.task).lines q n at)

-- ---- lines

abbrev pub on_line : Task → ℕ → Bool
on_line task p = is_some (index_in (signalled_by task) p) || is_some (index_in task.inputs p)

pub found : (xs : List ℕ) (n k p : ℕ) → k < length xs → get_or xs k 0 ≡ p
    → is_some (position_from (λ q. eqb q p) n xs) ≡ true
found [] n k p lt at = absurd (omega arith)
found (x ∷ xs) n zero p lt at = let here : eqb x p ≡ true = eq-eqb x p at in rw here refl
found (x ∷ xs) n (suc k) p lt at = by (eqb x p) (found xs (n + 1) k p (omega arith) at)
  where
    by : (b : Bool) → is_some (position_from (λ q. eqb q p) (n + 1) xs) ≡ true
        → is_some (cond b (Some n) (position_from (λ q. eqb q p) (n + 1) xs)) ≡ true
    by true e = refl
    by false e = e

pub on_line-is : (task : Task) (p : ℕ) → OnLine task p → on_line task p ≡ true
on_line-is task p (inl out) = let at = out.1 in rw at refl
on_line-is task p (inr into) =
    let at : is_some (index_in task.inputs p) ≡ true =
    found task.inputs 0 into.0 p into.1 into.2 in
    rw at (or_true (is_some (index_in (signalled_by task) p)))
  where
    or_true : (b : Bool) → (b || true) ≡ true
    or_true true = refl
    or_true false = refl

abbrev pub is_there : (o : Option ℕ) → Test ((j : ℕ) × (o ≡ Some j))
is_there None = never
is_there (Some j) = always (j, refl)

abbrev pub is_on_line : (task : Task) (p : ℕ) → Test (OnLine task p)
is_on_line task p =
    either (OnLine task p) (giving (λ r. inl r) (is_there (index_in (signalled_by task) p)))
    (giving (λ r. (let at = place-at task.inputs p r.0 r.1 in inr (r.0, at.0, at.1)))
    (is_there (index_in task.inputs p)))

-- ---- a task's place in its steps

abbrev pub stays : (job : Job) (m : Moment) (t p : ℕ) → Test (Given job m t p → IsStaying m t)
stays job m t p =
    let Stays : ℕ → Type 0 =
    λ q. (n : ℕ) → m.number q t ≡ Some n → has_dropped (m.history q) n ≡ false in
    giving (λ all g q n at. all q (within job m t p q n g at) n at)
    (each (length job.graph.phasers) Stays
    (λ q. when_some (m.number q t) (λ n. has_dropped (m.history q) n ≡ false)
    (λ n. test.is_false (has_dropped (m.history q) n))))

-- a child that is not there comes after so many steps, or more
abbrev pub Later : Job → Moment → ℕ → ℕ → ℕ → Parent → Type 0
Later job m steps p c u =
    m.number p c ≡ None → OnLine (task_at job.graph c) p → steps ≤ u.at

abbrev pub comes_later : (job : Job) (m : Moment) (steps p c : ℕ) (u : Parent)
    → Test (Later job m steps p c u)
comes_later job m steps p c u =
    where_so (m.number p c ≡ None) (OnLine (task_at job.graph c) p → steps ≤ u.at)
    (is_none (m.number p c)) (λ none. rw none refl)
    (where_so (OnLine (task_at job.graph c) p) (steps ≤ u.at) (on_line (task_at job.graph c) p)
    (on_line-is (task_at job.graph c) p) (test.is_at_most steps u.at))

abbrev pub none_before : (job : Job) (m : Moment) (t steps p : ℕ)
    → Test (NoneBefore job m t steps p)
none_before job m t steps p =
    let ByTask : ℕ → Parent → Type 0 =
    λ c u. u.task ≡ t → (n : ℕ) → m.number p t ≡ Some n → Later job m steps p c u in
    let Due : ℕ → Type 0 =
    λ c. (u : Parent) → (task_at job.graph c).parent ≡ Some u → ByTask c u in
    giving (λ all c n u there e by at none on. all c there u e by n at none on)
    (each (length job.graph.tasks) Due
    (λ c. when_some (task_at job.graph c).parent (ByTask c)
    (λ u. where_so (u.task ≡ t) ((n : ℕ) → m.number p t ≡ Some n → Later job m steps p c u)
    (eqb u.task t) (λ same. eq-eqb u.task t same)
    (when_some (m.number p t) (λ n. Later job m steps p c u)
    (λ n. comes_later job m steps p c u)))))

abbrev pub none_due : (job : Job) (m : Moment) (t p : ℕ) → Test (NoneDue job m t p)
none_due job m t p = none_before job m t (suc (m.begun t)) p

abbrev pub at_most : (n : ℕ) (limit : Option ℕ) → Test (AtMost n limit)
at_most n None = always tt
at_most n (Some limit) = test.is_at_most n limit

abbrev pub has_samples : (kind : Kind) (begun samples : ℕ) → Test (HasSamples kind begun samples)
has_samples Source begun samples = test.is_at_most begun samples
has_samples Fir begun samples = always tt
has_samples Split begun samples = always tt
has_samples Decimate begun samples = always tt
has_samples Join begun samples = always tt
has_samples Peer begun samples = always tt
has_samples Sink begun samples = always tt

abbrev pub has_exchanged : (kind : Kind) (j put taken : ℕ) → Test (HasExchanged kind j put taken)
has_exchanged Source j put taken = always tt
has_exchanged Fir j put taken = always tt
has_exchanged Split j put taken = always tt
has_exchanged Decimate j put taken = always tt
has_exchanged Join j put taken = always tt
has_exchanged Sink j put taken = always tt
has_exchanged Peer zero put taken = always tt
has_exchanged Peer (suc j) put taken = test.is_at_most put taken

abbrev pub may_begin_to : (job : Job) (m : Moment) (t p steps : ℕ)
    → Test (Given job m t p → MayBeginTo job m t steps)
may_begin_to job m t p steps =
    let task = task_at job.graph t in
    giving (λ b g. record {
      taken = b.left;
      cut = b.right.left;
      samples = b.right.right.left;
      children = λ q c n u there e by at none on.
          b.right.right.right q (within job m t p q n g at) c n u there e by at none on;
    })
    (both (each (length task.inputs) (λ k. length (m.taken t k) ≡ takes_from task (m.begun t) k)
    (λ k. test.is_equal (length (m.taken t k)) (takes_from task (m.begun t) k)))
    (both (at_most steps task.until)
    (both (has_samples task.kind steps (length (samples_at job t)))
    (each (length job.graph.phasers) (λ q. NoneBefore job m t steps q)
    (λ q. none_before job m t steps q)))))

abbrev pub may_begin : (job : Job) (m : Moment) (t p : ℕ)
    → Test (Given job m t p → MayBegin job m t)
may_begin job m t p = may_begin_to job m t p (suc (m.begun t))

-- ---- the end of a task

pub no_source : (kind : Kind) → is_source kind ≡ false → kind ≡ Source → ⊥
no_source kind e source = (let clash : true ≡ false = ap is_source (sym source) ∙ e in cc)

abbrev pub is_source_kind : (kind : Kind) → Test (kind ≡ Source)
is_source_kind kind = giving (source_kind kind) (test.is_true (is_source kind))

abbrev pub is_no_source : (kind : Kind) → Test (kind ≡ Source → ⊥)
is_no_source kind = giving (no_source kind) (test.is_false (is_source kind))

abbrev pub is_peer : (kind : Kind) → Test (kind ≡ Peer)
is_peer Peer = always refl
is_peer Source = never
is_peer Fir = never
is_peer Split = never
is_peer Decimate = never
is_peer Join = never
is_peer Sink = never

abbrev pub ran_out : (m : Moment) (task : Task) (t k : ℕ) → Test (RanOut m task t k)
ran_out m task t k =
    let h = m.history (input_at task k) in
    giving (λ b. (b.left, b.right))
    (both (test.is_empty (signal_phases (members_of h)))
    (test.is_at_most (done_of h) (m.offset t + length (m.taken t k))))

abbrev pub may_end : (m : Moment) (task : Task) (t samples : ℕ) → Test (MayStop m task t samples)
may_end m task t samples =
    let End = MayStop m task t samples in
    either End (giving (λ e. at_until e) (test.is_some_of task.until (m.begun t)))
    (either End (giving (λ b. no_sample b.left b.right)
    (both (is_source_kind task.kind) (test.is_at_most samples (m.begun t))))
    (giving (λ b. no_input b.left b.right)
    (both (is_no_source task.kind) (ran_out m task t (first_input task (m.begun t))))))

abbrev pub has_ended : (job : Job) (m : Moment) (t : ℕ) → Test (HasEnded job m t)
has_ended job m t =
    let task = task_at job.graph t in
    giving (λ b. record { all_put = b.left; may_end = b.right })
    (both (each (length (signalled_by task)) (λ j. m.put t j ≡ made_now job m t j)
    (λ j. test.are_values (m.put t j) (made_now job m t j)))
    (may_end m task t (length (samples_at job t))))

-- ---- signals

abbrev pub are_lists : (vs : List ℤ) → Test (AreLists (map one vs))
are_lists [] = always tt
are_lists (v ∷ vs) =
    giving (λ b. ((record { small = b.left }, tt), omega arith, b.right))
    (both (test.is_at_most (unsigned_abs v) value_max) (are_lists vs))

abbrev pub is_accepted_signals : (job : Job) (m : Moment) (t j p n : ℕ) (vs : List ℤ)
    → Test (Given job m t p → IsAcceptedSignals job m t j p n vs)
is_accepted_signals job m t j p n vs =
    let single = (phaser_at job.graph p).single in
    giving (λ b g. record {
      accepted = (b.left, b.right.left, (g.graph.phasers p g.there.phaser).single);
      numbered = b.right.right.left;
      place = b.right.right.right.left;
      staying = b.right.right.right.right g;
    })
    (both (test.is_none (signal_refusal (limits_at job p) (m.history p) n (map one vs) single))
    (both (are_lists vs)
    (both (test.is_some_of (m.number p t) n)
    (both (test.is_some_of (index_in (signalled_by (task_at job.graph t)) p) j)
    (stays job m t p)))))

abbrev pub is_accepted_signal : (job : Job) (m : Moment) (t j p n : ℕ) (v : ℤ)
    → Test (Given job m t p → IsAcceptedSignal job m t j p n v)
is_accepted_signal job m t j p n v = is_accepted_signals job m t j p n (v ∷ [])

abbrev pub is_next_signal : (job : Job) (m : Moment) (t j p n : ℕ) (v : ℤ)
    → Test (Given job m t p → IsNextSignal job m t j p n v)
is_next_signal job m t j p n v =
    let made = made_now job m t j in
    giving (λ b g. record {
      signal = b.left g;
      few = b.right.left;
      entry = b.right.right.left;
      exchanged = b.right.right.right;
    })
    (both (is_accepted_signal job m t j p n v)
    (both (test.is_below (length (m.put t j)) (length made))
    (both (test.is_value (get_or made (length (m.put t j)) (pos 0)) v)
    (has_exchanged (task_at job.graph t).kind j (suc (length (m.put t j)))
    (length (m.taken t 1))))))

abbrev pub is_next_sample : (job : Job) (m : Moment) (t j p n : ℕ) (v : ℤ)
    → Test (Given job m t p → IsNextSample job m t j p n v)
is_next_sample job m t j p n v =
    giving (λ b g. record {
      signal = b.left g;
      source = b.right.left;
      may_begin = b.right.right.left g;
      all_put = b.right.right.right.left;
      sample = b.right.right.right.right;
    })
    (both (is_accepted_signal job m t j p n v)
    (both (is_source_kind (task_at job.graph t).kind)
    (both (may_begin job m t p)
    (both (test.is_equal (length (m.put t j)) (m.begun t))
    (test.is_value (get_or (samples_at job t) (m.begun t) (pos 0)) v)))))

-- ---- waits

abbrev pub is_answered_waits : (job : Job) (m : Moment) (t k p n : ℕ) (outcomes : List Outcome)
    → Test (Given job m t p → IsAnsweredWaits job m t k p n outcomes)
is_answered_waits job m t k p n outcomes =
    let task = task_at job.graph t in
    let value = value_at job p in
    let h = m.history p in
    let many = length outcomes in
    giving (λ b g. record {
      accepted = (b.left, b.right.left);
      numbered = b.right.right.left;
      few = b.right.right.right.left;
      place = b.right.right.right.right.left;
      staying = b.right.right.right.right.right.left g;
      answered = (let mine : eqb n n ≡ true = eq-eqb n n refl in
          rw mine (ap (λ l. received_by value h n ++ l) b.right.right.right.right.right.right));
    })
    (both (test.is_none (wait_refusal (limits_at job p) h n many))
    (both (test.is_at_most (wait_phase h n + many) (done_of h))
    (both (test.is_some_of (m.number p t) n)
    (both (test.is_below k (length task.inputs))
    (both (test.is_equal (input_at task k) p)
    (both (stays job m t p)
    (test.are_outcomes (take many (drop (wait_phase h n) (stream_of value h))) outcomes)))))))

abbrev pub is_answered_wait : (job : Job) (m : Moment) (t k p n : ℕ) (outcome : Outcome)
    → Test (Given job m t p → IsAnsweredWait job m t k p n outcome)
is_answered_wait job m t k p n outcome = is_answered_waits job m t k p n (outcome ∷ [])

abbrev pub is_first_wait : (job : Job) (m : Moment) (t k p n : ℕ) (outcome : Outcome)
    → Test (Given job m t p → IsFirstWait job m t k p n outcome)
is_first_wait job m t k p n outcome =
    giving (λ b g. record {
      wait = b.left g;
      first = b.right.left;
      may_begin = b.right.right g;
    })
    (both (is_answered_wait job m t k p n outcome)
    (both (test.is_equal k (first_input (task_at job.graph t) (m.begun t)))
    (may_begin job m t p)))

abbrev pub is_exchange_wait : (job : Job) (m : Moment) (t p n : ℕ) (outcome : Outcome)
    → Test (Given job m t p → IsExchangeWait job m t p n outcome)
is_exchange_wait job m t p n outcome =
    giving (λ b g. record { wait = b.left g; peer = b.right.left; behind = b.right.right })
    (both (is_answered_wait job m t 1 p n outcome)
    (both (is_peer (task_at job.graph t).kind)
    (test.is_below (length (m.taken t 1)) (m.begun t))))

-- ---- leaving, and a child

abbrev pub is_next_leave : (job : Job) (m : Moment) (t p n : ℕ) → Test (IsNextLeave job m t p n)
is_next_leave job m t p n =
    giving (λ b. record {
      accepted = b.left;
      numbered = b.right.left;
      ended = b.right.right.left;
      children = b.right.right.right;
    })
    (both (test.is_none (drop_refusal (m.history p) n))
    (both (test.is_some_of (m.number p t) n)
    (both (has_ended job m t) (none_due job m t p))))

-- by its parent
abbrev pub is_child_of : (job : Job) (m : Moment) (t p n c a : ℕ) (mode : Mode) (o : Option Parent)
    → (task_at job.graph c).parent ≡ o
    → Test ((u : Parent) × IsNextChild job m t p n c a mode u)
is_child_of job m t p n c a mode None e = never
is_child_of job m t p n c a mode (Some u) e =
    let of_t = task_at job.graph t in
    let of_c = task_at job.graph c in
    giving (λ b. (
      u,
      record {
        child = b.left;
        parent = e;
        by = b.right.left;
        on_line = b.right.right.left;
        numbered = b.right.right.right.left;
        absent = b.right.right.right.right.left;
        accepted = b.right.right.right.right.right.left;
        signals = b.right.right.right.right.right.right.left.left;
        waits = b.right.right.right.right.right.right.left.right;
        boundary = b.right.right.right.right.right.right.right.left.left;
        offset = b.right.right.right.right.right.right.right.left.right;
        nothing_begun = b.right.right.right.right.right.right.right.right.left;
        nothing_put = b.right.right.right.right.right.right.right.right.right.left.left;
        nothing_taken = b.right.right.right.right.right.right.right.right.right.left.right;
        all_put = b.right.right.right.right.right.right.right.right.right.right.left;
        all_taken = b.right.right.right.right.right.right.right.right.right.right.right;
      },
    ))
    (both (test.is_below c (length job.graph.tasks))
    (both (test.is_equal u.task t)
    (both (is_on_line of_c p)
    (both (test.is_some_of (m.number p t) n)
    (both (test.is_none (m.number p c))
    (both (test.is_none (register_refusal (m.history p) n a mode))
    (both (both
    (outputs of_c (λ j. mode_signals mode ≡ true) (λ j. test.is_true (mode_signals mode)))
    (inputs of_c (λ k. mode_waits mode ≡ true) (λ k. test.is_true (mode_waits mode))))
    (both (both (test.is_equal (m.begun t) u.at)
    (test.is_equal (m.offset c) (m.offset t + u.at)))
    (both (test.is_equal (m.begun c) 0)
    (both (both (outputs of_c (λ j. m.put c j ≡ []) (λ j. test.is_empty (m.put c j)))
    (inputs of_c (λ k. m.taken c k ≡ []) (λ k. test.is_empty (m.taken c k))))
    (both (outputs of_t (λ i. length (m.put t i) ≡ m.begun t)
    (λ i. test.is_equal (length (m.put t i)) (m.begun t)))
    (inputs of_t (λ k. length (m.taken t k) ≡ m.begun t)
    (λ k. test.is_equal (length (m.taken t k)) (m.begun t))))))))))))))
  where
    -- of the output that the phaser is
    outputs : (task : Task) (P : ℕ → Type 0) → ((j : ℕ) → Test (P j))
        → Test ((j : ℕ) → index_in (signalled_by task) p ≡ Some j → P j)
    outputs task P f = when_some (index_in (signalled_by task) p) P f

    -- of each input that it is
    inputs : (task : Task) (P : ℕ → Type 0) → ((k : ℕ) → Test (P k))
        → Test ((k : ℕ) → k < length task.inputs → input_at task k ≡ p → P k)
    inputs task P f = each (length task.inputs) (λ k. input_at task k ≡ p → P k)
        (λ k. where_so (input_at task k ≡ p) (P k) (eqb (input_at task k) p)
        (λ same. eq-eqb (input_at task k) p same) (f k))

-- ---- where it is

abbrev pub is_there_at : (job : Job) (t p : ℕ) → Test (IsThere job t p)
is_there_at job t p =
    giving (λ b. record { task = b.left; phaser = b.right })
    (both (test.is_below t (length job.graph.tasks)) (test.is_below p (length job.graph.phasers)))

-- a test of what stands on the graph, on the moment and on the place
abbrev pub on_it : (job : Job) (m : Moment) (t p : ℕ) (P : Type 0) → Test (Given job m t p → P)
    → Test (IsGraph job.graph → HasRun job m → IsThere job t p × P)
on_it job m t p P next =
    giving (λ b is ran. (b.left, b.right (record { graph = is; ran = ran; there = b.left })))
    (both (is_there_at job t p) next)
