-- The moment after one event has what every moment has.
use Rattle.std.proofs.Common.{◌≡◌, ◌≢◌, ℕ, suc, ◌+◌, ◌<◌, ◌≤◌, true, false, eqb, List, [], ◌∷◌, ◌++◌, Some, ℤ, pos, length, get_or, take, refl, sym, ap, ◌∙◌, arith, ◌⊎◌, inl, inr}
use mathlib.Core.List.{IsPrefix}
use Rattle.std.proofs.lemmas.Bool.{ne_eqb, eq-eqb}
use Rattle.std.proofs.lemmas.List.{length-append, append_assoc}
use Rattle.phase_accum.specs.declared.outcome.Outcome.{Outcome}
use Rattle.phase_history.specs.declared.event.Event.TheVariants.{Registered, Signalled, Waited, Dropped}
use Rattle.phase_base.specs.declared.mode.Mode.{Mode}
use Rattle.phase_history.proofs.Streams.{IsPrefix-trans}
use Rattle.graph_base.specs.declared.line.Parent.{Parent}
use Rattle.graph_base.specs.declared.line.Kind.{Kind}
use Rattle.graph_base.specs.declared.line.Kind.TheVariants.{Source, Fir, Split, Decimate, Join, Peer, Sink}
use Rattle.graph_base.specs.Graphs.{task_at, phaser_at}
use Rattle.graph_base.specs.TaskLines.{IsGraph}
use Rattle.stream_lists.specs.Jobs.{Job, samples_at}
use Rattle.stream_lists.specs.Spans.{signalled_by}
use Rattle.stream_lists.specs.Lists.{output_list, number}
use Rattle.stream_lists.proofs.Ordered.{place-at}
use Rattle.graph_runs.specs.Moments.{Moment, HasRun, TaskRan, made_now, taken_now}
use Rattle.graph_runs.specs.Moves.{IsBlock, Signals, Waits, Leaves, Registers, SameTask, HasMoved}
use Rattle.graph_runs.specs.Turned.{with_at, after_signal, after_wait, after_leave, after_register, IsAcceptedSignal, IsNextSignal, IsNextSample, IsAnsweredWait, IsFirstWait, IsExchangeWait, IsNextLeave, IsNextChild}
use Rattle.graph_runs.proofs.Entries.{take_prefix, take_full, get_or-take}
use Rattle.graph_runs.proofs.OwnEvents.{made_still, eq_case}
use Rattle.graph_runs.proofs.Keeping.{signal_keeps, wait_keeps, leave_keeps}
use Rattle.graph_runs.proofs.ChildJoins.{register_keeps}

-- ---- a function with one place changed

pub at_same : {X : Type 0} (p : ℕ) (x : X) (f : ℕ → X) → with_at p x f p ≡ x
at_same p x f = let here : eqb p p ≡ true = eq-eqb p p refl in rw here refl

pub at_other : {X : Type 0} (p : ℕ) (x : X) (f : ℕ → X) (q : ℕ) → q ≢ p → with_at p x f q ≡ f q
at_other p x f q apart = let other : eqb q p ≡ false = ne_eqb q p (λ e. apart e) in rw other refl

seam : (xs : List ℤ) (r : ℤ) (rs : List ℤ) → get_or (xs ++ r ∷ rs) (length xs) (pos 0) ≡ r
seam [] r rs = refl
seam (x ∷ xs) r rs = seam xs r rs

-- one entry more
prefix_next : (xs ys : List ℤ) (v : ℤ) → IsPrefix xs ys → length xs < length ys
    → get_or ys (length xs) (pos 0) ≡ v → IsPrefix (xs ++ v ∷ []) ys
prefix_next xs ys v a lt e = by a.0 a.1
  where
    by : (rest : List ℤ) → xs ++ rest ≡ ys → IsPrefix (xs ++ v ∷ []) ys
    by [] is =
        absurd (omega (arith, sym (length-append xs []) ∙ ap length is))
    by (r ∷ rs) is =
        let here : r ≡ v = sym (seam xs r rs) ∙ ap (λ l. get_or l (length xs) (pos 0)) is ∙ e in (
          rs,
          append_assoc xs (v ∷ []) rs
              ∙ ap (λ w. xs ++ w ∷ rs) (sym here) ∙ is,
        )

-- ---- signals

moved_signal : (job : Job) (m : Moment) (t j p n : ℕ) (v : ℤ) (begun : ℕ)
    → IsAcceptedSignal job m t j p n v → m.begun t ≤ begun
    → HasMoved job m (after_signal job t j p n v begun m) t p
    (Signalled n ((v ∷ []) ∷ []) (phaser_at job.graph p).single)
moved_signal job m t j p n v begun s le =
    let event = Signalled n ((v ∷ []) ∷ []) (phaser_at job.graph p).single in
    record {
      accepted = s.accepted;
      here = at_same p (event ∷ m.history p) m.history;
      elsewhere = λ q apart. at_other p (event ∷ m.history p) m.history q apart;
      offset = refl;
      onward = (let b : with_at t begun m.begun t ≡ begun = at_same t begun m.begun in omega arith);
      others = λ u apart. record {
        offset = refl;
        begun = at_other t begun m.begun u apart;
        taken = λ k. refl;
        put = λ i.
            ap (λ f. f i) (at_other t (with_at j (m.put t j ++ v ∷ []) (m.put t)) m.put u apart);
      };
      numbers = λ q u. refl;
    }

put_now : (job : Job) (m : Moment) (t j p n : ℕ) (v : ℤ) (begun : ℕ)
    → (after_signal job t j p n v begun m).put t j ≡ m.put t j ++ v ∷ []
put_now job m t j p n v begun =
    ap (λ f. f j) (at_same t (with_at j (m.put t j ++ v ∷ []) (m.put t)) m.put)
    ∙ at_same j (m.put t j ++ v ∷ []) (m.put t)

put_else : (job : Job) (m : Moment) (t j p n : ℕ) (v : ℤ) (begun i : ℕ) → i ≢ j
    → (after_signal job t j p n v begun m).put t i ≡ m.put t i
put_else job m t j p n v begun i apart =
    ap (λ f. f i) (at_same t (with_at j (m.put t j ++ v ∷ []) (m.put t)) m.put)
    ∙ at_other j (m.put t j ++ v ∷ []) (m.put t) i apart

one_longer : (xs : List ℤ) (v : ℤ) → length (xs ++ v ∷ []) ≡ suc (length xs)
one_longer xs v =
    let l : length (xs ++ v ∷ []) ≡ length xs + 1 = length-append xs (v ∷ []) in omega arith

-- the next signal of a step that was begun
pub next_signal_is : (job : Job) (m : Moment) (t j p n : ℕ) (v : ℤ)
    → IsNextSignal job m t j p n v → TaskRan job m t
    → Signals job m (after_signal job t j p n v (m.begun t) m) t j p n v
next_signal_is job m t j p n v s ran =
    let after = after_signal job t j p n v (m.begun t) m in
    let still : after.begun t ≡ m.begun t = at_same t (m.begun t) m.begun in
    let put = put_now job m t j p n v (m.begun t) in
    let made : made_now job after t j ≡ made_now job m t j =
    made_still job m after t j (λ k. refl) still in
    let lt : j < length (signalled_by (task_at job.graph t)) =
    (place-at (signalled_by (task_at job.graph t)) p j s.signal.place).0 in
    record {
      moved = moved_signal job m t j p n v (m.begun t) s.signal (omega arith);
      numbered = s.signal.numbered;
      place = s.signal.place;
      staying = s.signal.staying;
      taken = λ k. refl;
      put = put;
      other_puts = λ i apart. put_else job m t j p n v (m.begun t) i apart;
      begun = inr still;
      made = rw put
          (rw made
          (prefix_next (m.put t j) (made_now job m t j) v (ran.puts j lt) s.few s.entry));
      exchanged = rw (ap length put ∙ one_longer (m.put t j) v) s.exchanged;
    }

pub next_signal_keeps : (job : Job) (m : Moment) (t j p n : ℕ) (v : ℤ) → IsGraph job.graph
    → t < length job.graph.tasks → p < length job.graph.phasers
    → IsNextSignal job m t j p n v → HasRun job m
    → HasRun job (after_signal job t j p n v (m.begun t) m)
next_signal_keeps job m t j p n v is there pp s ran =
    signal_keeps job m (after_signal job t j p n v (m.begun t) m) t j p n v is there pp
    (next_signal_is job m t j p n v s (ran.tasks t there)) ran

-- the next signal of a source
pub next_sample_is : (job : Job) (m : Moment) (t j p n : ℕ) (v : ℤ)
    → IsNextSample job m t j p n v → TaskRan job m t
    → Signals job m (after_signal job t j p n v (suc (m.begun t)) m) t j p n v
next_sample_is job m t j p n v s ran =
    let b = m.begun t in
    let samples = samples_at job t in
    let after = after_signal job t j p n v (suc b) m in
    let now : after.begun t ≡ suc b = at_same t (suc b) m.begun in
    let put = put_now job m t j p n v (suc b) in
    let lt : j < length (signalled_by (task_at job.graph t)) =
    (place-at (signalled_by (task_at job.graph t)) p j s.signal.place).0 in
    let few : suc b ≤ length samples = rw s.source at s.may_begin.samples in
    let before_is : made_now job m t j ≡ take b samples =
    source_makes (task_at job.graph t).kind s.source b (taken_now m (task_at job.graph t) t) in
    let after_is : made_now job after t j ≡ take (suc b) samples =
    source_makes (task_at job.graph t).kind s.source (after.begun t)
    (taken_now after (task_at job.graph t) t) ∙ ap (λ n. take n samples) now in
    let begins : IsPrefix (m.put t j) (take (suc b) samples) =
    IsPrefix-trans (m.put t j) (take b samples) (take (suc b) samples)
    (rw before_is at (ran.puts j lt))
    (take_prefix b (suc b) samples (omega arith)) in
    let long : length (take (suc b) samples) ≡ suc b = take_full (suc b) samples few in
    let all : length (m.put t j) ≡ b = s.all_put in
    let entry : get_or (take (suc b) samples) (length (m.put t j)) (pos 0) ≡ v =
    ap (λ i. get_or (take (suc b) samples) i (pos 0)) all
    ∙ get_or-take samples (suc b) b (pos 0) (omega arith) ∙ s.sample in
    record {
      moved = moved_signal job m t j p n v (suc b) s.signal (omega arith);
      numbered = s.signal.numbered;
      place = s.signal.place;
      staying = s.signal.staying;
      taken = λ k. refl;
      put = put;
      other_puts = λ i apart. put_else job m t j p n v (suc b) i apart;
      begun = inl (s.source, now, s.may_begin);
      made = rw put
          (rw after_is
          (prefix_next (m.put t j) (take (suc b) samples) v begins (omega arith) entry));
      exchanged = rw s.source tt;
    }
  where
    source_makes : (kind : Kind) → (task_at job.graph t).kind ≡ Source
        → (b : ℕ) (taken : List (List ℤ))
        → output_list (samples_at job t) taken (task_at job.graph t) b j ≡ take b (samples_at job t)
    source_makes kind e b taken = rw e refl

pub next_sample_keeps : (job : Job) (m : Moment) (t j p n : ℕ) (v : ℤ) → IsGraph job.graph
    → t < length job.graph.tasks → p < length job.graph.phasers
    → IsNextSample job m t j p n v → HasRun job m
    → HasRun job (after_signal job t j p n v (suc (m.begun t)) m)
next_sample_keeps job m t j p n v is there pp s ran =
    signal_keeps job m (after_signal job t j p n v (suc (m.begun t)) m) t j p n v is there pp
    (next_sample_is job m t j p n v s (ran.tasks t there)) ran

-- ---- waits

-- a step is a block of one
pub one_step : (kind : Kind) → IsBlock kind 1
one_step Source = tt
one_step Fir = tt
one_step Split = refl
one_step Decimate = refl
one_step Join = refl
one_step Peer = refl
one_step Sink = tt

moved_wait : (job : Job) (m : Moment) (t k p n : ℕ) (outcome : Outcome) (begun : ℕ)
    → IsAnsweredWait job m t k p n outcome → m.begun t ≤ begun
    → HasMoved job m (after_wait t k p n outcome begun m) t p (Waited n 1)
moved_wait job m t k p n outcome begun s le = record {
  accepted = s.accepted;
  here = at_same p (Waited n 1 ∷ m.history p) m.history;
  elsewhere = λ q apart. at_other p (Waited n 1 ∷ m.history p) m.history q apart;
  offset = refl;
  onward = (let b : with_at t begun m.begun t ≡ begun = at_same t begun m.begun in omega arith);
  others = λ u apart. record {
    offset = refl;
    begun = at_other t begun m.begun u apart;
    taken = λ i.
        ap (λ f. f i)
        (at_other t (with_at k (m.taken t k ++ number outcome ∷ []) (m.taken t)) m.taken u
        apart);
    put = λ j. refl;
  };
  numbers = λ q u. refl;
}

taken_here : (m : Moment) (t k p n : ℕ) (outcome : Outcome) (begun : ℕ)
    → (after_wait t k p n outcome begun m).taken t k ≡ m.taken t k ++ number outcome ∷ []
taken_here m t k p n outcome begun =
    ap (λ f. f k) (at_same t (with_at k (m.taken t k ++ number outcome ∷ []) (m.taken t)) m.taken)
    ∙ at_same k (m.taken t k ++ number outcome ∷ []) (m.taken t)

taken_else : (m : Moment) (t k p n : ℕ) (outcome : Outcome) (begun i : ℕ) → i ≢ k
    → (after_wait t k p n outcome begun m).taken t i ≡ m.taken t i
taken_else m t k p n outcome begun i apart =
    ap (λ f. f i) (at_same t (with_at k (m.taken t k ++ number outcome ∷ []) (m.taken t)) m.taken)
    ∙ at_other k (m.taken t k ++ number outcome ∷ []) (m.taken t) i apart

-- the first wait of a step
pub first_wait_is : (job : Job) (m : Moment) (t k p n : ℕ) (outcome : Outcome)
    → IsFirstWait job m t k p n outcome
    → Waits job m (after_wait t k p n outcome (suc (m.begun t)) m) t k p n outcome
first_wait_is job m t k p n outcome s =
    record {
      moved = moved_wait job m t k p n outcome (suc (m.begun t)) s.wait (omega arith);
      numbered = s.wait.numbered;
      few = s.wait.few;
      place = s.wait.place;
      staying = s.wait.staying;
      answered = s.wait.answered;
      taken = taken_here m t k p n outcome (suc (m.begun t));
      other_takes = λ i apart. taken_else m t k p n outcome (suc (m.begun t)) i apart;
      put = λ j. refl;
      begun = inl (
        s.first,
        at_same t (suc (m.begun t)) m.begun,
        one_step (task_at job.graph t).kind,
        s.may_begin,
      );
    }

pub first_wait_keeps : (job : Job) (m : Moment) (t k p n : ℕ) (outcome : Outcome)
    → IsGraph job.graph → t < length job.graph.tasks → p < length job.graph.phasers
    → IsFirstWait job m t k p n outcome → HasRun job m
    → HasRun job (after_wait t k p n outcome (suc (m.begun t)) m)
first_wait_keeps job m t k p n outcome is there pp s ran =
    wait_keeps job m (after_wait t k p n outcome (suc (m.begun t)) m) t k p n outcome is there pp
    (first_wait_is job m t k p n outcome s) ran

-- a peer's second
pub exchange_wait_is : (job : Job) (m : Moment) (t p n : ℕ) (outcome : Outcome)
    → IsExchangeWait job m t p n outcome
    → Waits job m (after_wait t 1 p n outcome (m.begun t) m) t 1 p n outcome
exchange_wait_is job m t p n outcome s =
    record {
      moved = moved_wait job m t 1 p n outcome (m.begun t) s.wait (omega arith);
      numbered = s.wait.numbered;
      few = s.wait.few;
      place = s.wait.place;
      staying = s.wait.staying;
      answered = s.wait.answered;
      taken = taken_here m t 1 p n outcome (m.begun t);
      other_takes = λ i apart. taken_else m t 1 p n outcome (m.begun t) i apart;
      put = λ j. refl;
      begun = inr (s.peer, refl, refl, at_same t (m.begun t) m.begun, s.behind);
    }

pub exchange_wait_keeps : (job : Job) (m : Moment) (t p n : ℕ) (outcome : Outcome)
    → IsGraph job.graph → t < length job.graph.tasks → p < length job.graph.phasers
    → IsExchangeWait job m t p n outcome → HasRun job m
    → HasRun job (after_wait t 1 p n outcome (m.begun t) m)
exchange_wait_keeps job m t p n outcome is there pp s ran =
    wait_keeps job m (after_wait t 1 p n outcome (m.begun t) m) t 1 p n outcome is there pp
    (exchange_wait_is job m t p n outcome s) ran

-- ---- leaving, and a child

same_task : (before after : Moment) (t : ℕ) → after.offset t ≡ before.offset t
    → after.begun t ≡ before.begun t
    → after.taken t ≡ before.taken t → after.put t ≡ before.put t → SameTask before after t
same_task before after t offset begun taken put =
    record {
      offset =
          offset;
      begun = begun;
      taken = λ k. ap (λ f. f k) taken;
      put = λ j. ap (λ f. f j) put;
    }

-- leaving a phaser
pub next_leave_is : (job : Job) (m : Moment) (t p n : ℕ) → IsNextLeave job m t p n
    → Leaves job m (after_leave p n m) t p n
next_leave_is job m t p n s =
    record {
      moved = record {
        accepted = s.accepted;
        here = at_same p (Dropped n ∷ m.history p) m.history;
        elsewhere = λ q apart. at_other p (Dropped n ∷ m.history p) m.history q apart;
        offset = refl;
        onward = omega arith;
        others = λ u apart. same_task m (after_leave p n m) u refl refl refl refl;
        numbers = λ q u. refl;
      };
      numbered = s.numbered;
      same = same_task m (after_leave p n m) t refl refl refl refl;
      ended = s.ended;
      children = s.children;
    }

pub next_leave_keeps : (job : Job) (m : Moment) (t p n : ℕ) → IsGraph job.graph
    → t < length job.graph.tasks → p < length job.graph.phasers
    → IsNextLeave job m t p n → HasRun job m → HasRun job (after_leave p n m)
next_leave_keeps job m t p n is there pp s ran =
    leave_keeps job m (after_leave p n m) t p n is there pp (next_leave_is job m t p n s) ran

-- registering a child on a phaser
pub next_child_is : (job : Job) (m : Moment) (t p n c a : ℕ) (mode : Mode) (u : Parent)
    → IsNextChild job m t p n c a mode u
    → Registers job m (after_register p n c a mode m) t p n c a mode u
next_child_is job m t p n c a mode u s =
    let after = after_register p n c a mode m in
    record {
      child = s.child;
      parent = s.parent;
      by = s.by;
      on_line = s.on_line;
      numbered = s.numbered;
      absent = s.absent;
      accepted = s.accepted;
      here = at_same p (Registered n a mode ∷ m.history p) m.history;
      elsewhere = λ q apart. at_other p (Registered n a mode ∷ m.history p) m.history q apart;
      same = λ x. same_task m after x refl refl refl refl;
      number = ap (λ f. f c) (at_same p (with_at c (Some a) (m.number p)) m.number)
          ∙ at_same c (Some a) (m.number p);
      other_numbers = λ q x which. other q x which (eq_case q p);
      signals = s.signals;
      waits = s.waits;
      boundary = s.boundary;
      offset = s.offset;
      nothing_put = s.nothing_put;
      nothing_taken = s.nothing_taken;
      nothing_begun = s.nothing_begun;
      all_put = s.all_put;
      all_taken = s.all_taken;
    }
  where
    other : (q x : ℕ) → (q ≢ p) ⊎ (x ≢ c) → (q ≡ p) ⊎ (q ≢ p)
        → with_at p (with_at c (Some a) (m.number p)) m.number q x ≡ m.number q x
    other q x which (inr apart) =
        ap (λ f. f x) (at_other p (with_at c (Some a) (m.number p)) m.number q apart)
    other q x (inl apart) (inl same) = absurd (apart same)
    other q x (inr apart) (inl same) =
        rw same
        (ap (λ f. f x) (at_same p (with_at c (Some a) (m.number p)) m.number)
        ∙ at_other c (Some a) (m.number p) x apart)

pub next_child_keeps : (job : Job) (m : Moment) (t p n c a : ℕ) (mode : Mode) (u : Parent)
    → IsGraph job.graph → t < length job.graph.tasks
    → IsNextChild job m t p n c a mode u → HasRun job m → HasRun job (after_register p n c a mode m)
next_child_keeps job m t p n c a mode u is there s ran =
    register_keeps job m (after_register p n c a mode m) t p n c a mode u is there
    (next_child_is job m t p n c a mode u s) ran
