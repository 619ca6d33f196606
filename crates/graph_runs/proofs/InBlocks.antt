-- The moment after an event of several phases has what every moment has.
use Rattle.std.proofs.Common.{◌≡◌, ◌≢◌, ℕ, ◌+◌, ◌<◌, ◌≤◌, List, [], ◌∷◌, ◌++◌, ℤ, length, map, take, drop, refl, sym, ap, ◌∙◌, arith, inl, inr}
use mathlib.Core.List.{IsPrefix}
use Rattle.std.proofs.lemmas.List.{append-nil, length-append, take-append-drop, take-take, drop-take}
use Rattle.phase_accum.specs.declared.outcome.Outcome.{Outcome}
use Rattle.phase_history.specs.declared.event.Event.TheVariants.{Signalled, Waited}
use Rattle.graph_base.specs.declared.line.Kind.{Kind}
use Rattle.graph_base.specs.declared.line.Kind.TheVariants.{Source}
use Rattle.graph_base.specs.Graphs.{task_at, phaser_at}
use Rattle.graph_base.specs.TaskLines.{IsGraph}
use Rattle.stream_lists.specs.Jobs.{Job, samples_at}
use Rattle.stream_lists.specs.Spans.{signalled_by}
use Rattle.stream_lists.specs.Lists.{output_list, number}
use Rattle.stream_lists.proofs.Ordered.{place-at}
use Rattle.graph_runs.specs.Moments.{one, Moment, HasRun, TaskRan, made_now, taken_now}
use Rattle.graph_runs.specs.Moves.{further, SignalsAll, WaitsAll, HasMoved}
use Rattle.graph_runs.specs.Turned.{with_at, after_signals, after_waits, IsAcceptedSignals, IsNextSignals, IsNextSamples, IsAnsweredWaits, IsFirstWaits}
use Rattle.graph_runs.proofs.Entries.{take_full, prefix_whole}
use Rattle.graph_runs.proofs.OwnEvents.{made_still}
use Rattle.graph_runs.proofs.Keeping.{signals_keep, waits_keep}
use Rattle.graph_runs.proofs.Nexts.{further-length}
use Rattle.graph_runs.proofs.Turned.{at_same, at_other}

take-add : (a n : ℕ) (xs : List ℤ) → take (a + n) xs ≡ take a xs ++ take n (drop a xs)
take-add a n xs =
    let whole : take a (take (a + n) xs) ++ drop a (take (a + n) xs) ≡ take (a + n) xs =
    take-append-drop a (take (a + n) xs) in
    sym (rw (take-take a (a + n) xs (omega arith), drop-take a n xs) at whole)

-- ---- signals

moved_signal : (job : Job) (m : Moment) (t j p n : ℕ) (vs : List ℤ) (begun : ℕ)
    → IsAcceptedSignals job m t j p n vs → m.begun t ≤ begun
    → HasMoved job m (after_signals job t j p n vs begun m) t p
    (Signalled n (map one vs) (phaser_at job.graph p).single)
moved_signal job m t j p n vs begun s le =
    let event = Signalled n (map one vs) (phaser_at job.graph p).single in
    record {
      accepted = s.accepted;
      here = at_same p (event ∷ m.history p) m.history;
      elsewhere = λ q apart. at_other p (event ∷ m.history p) m.history q apart;
      offset = refl;
      onward = (let b : with_at t begun m.begun t ≡ begun = at_same t begun m.begun in omega arith);
      others = λ u apart. record {
        offset = refl;
        begun = at_other t begun m.begun u apart;
        taken = λ k. refl;
        put = λ i.
            ap (λ f. f i) (at_other t (with_at j (m.put t j ++ vs) (m.put t)) m.put u apart);
      };
      numbers = λ q u. refl;
    }

put_now : (job : Job) (m : Moment) (t j p n : ℕ) (vs : List ℤ) (begun : ℕ)
    → (after_signals job t j p n vs begun m).put t j ≡ m.put t j ++ vs
put_now job m t j p n vs begun =
    ap (λ f. f j) (at_same t (with_at j (m.put t j ++ vs) (m.put t)) m.put)
    ∙ at_same j (m.put t j ++ vs) (m.put t)

put_else : (job : Job) (m : Moment) (t j p n : ℕ) (vs : List ℤ) (begun i : ℕ) → i ≢ j
    → (after_signals job t j p n vs begun m).put t i ≡ m.put t i
put_else job m t j p n vs begun i apart =
    ap (λ f. f i) (at_same t (with_at j (m.put t j ++ vs) (m.put t)) m.put)
    ∙ at_other j (m.put t j ++ vs) (m.put t) i apart

-- the next signal of a step that was begun
pub next_signals_are : (job : Job) (m : Moment) (t j p n : ℕ) (vs : List ℤ)
    → IsNextSignals job m t j p n vs → TaskRan job m t
    → SignalsAll job m (after_signals job t j p n vs (m.begun t) m) t j p n vs
next_signals_are job m t j p n vs s ran =
    let after = after_signals job t j p n vs (m.begun t) m in
    let still : after.begun t ≡ m.begun t = at_same t (m.begun t) m.begun in
    let put = put_now job m t j p n vs (m.begun t) in
    let made : made_now job after t j ≡ made_now job m t j =
    made_still job m after t j (λ k. refl) still in
    record {
      moved = moved_signal job m t j p n vs (m.begun t) s.signal (omega arith);
      numbered = s.signal.numbered;
      place = s.signal.place;
      staying = s.signal.staying;
      taken = λ k. refl;
      put = put;
      other_puts = λ i apart. put_else job m t j p n vs (m.begun t) i apart;
      begun = inr still;
      made = rw put (rw made s.entries);
      exchanged = rw (ap length put ∙ length-append (m.put t j) vs) s.exchanged;
    }

pub next_signals_keep : (job : Job) (m : Moment) (t j p n : ℕ) (vs : List ℤ) → IsGraph job.graph
    → t < length job.graph.tasks → p < length job.graph.phasers
    → IsNextSignals job m t j p n vs → HasRun job m
    → HasRun job (after_signals job t j p n vs (m.begun t) m)
next_signals_keep job m t j p n vs is there pp s ran =
    signals_keep job m (after_signals job t j p n vs (m.begun t) m) t j p n vs is there pp
    (next_signals_are job m t j p n vs s (ran.tasks t there)) ran

-- the next signal of a source
pub next_samples_are : (job : Job) (m : Moment) (t j p n : ℕ) (vs : List ℤ)
    → IsNextSamples job m t j p n vs → TaskRan job m t
    → SignalsAll job m (after_signals job t j p n vs (further (m.begun t) vs) m) t j p n vs
next_samples_are job m t j p n vs s ran =
    let b = m.begun t in
    let c = length vs in
    let samples = samples_at job t in
    let next = further b vs in
    let many : further b vs ≡ b + c = further-length b vs in
    let after = after_signals job t j p n vs next m in
    let now : after.begun t ≡ next = at_same t next m.begun in
    let put = put_now job m t j p n vs next in
    let lt : j < length (signalled_by (task_at job.graph t)) =
    (place-at (signalled_by (task_at job.graph t)) p j s.signal.place).0 in
    let few : further b vs ≤ length samples = rw s.source at s.may_begin.samples in
    let before_is : made_now job m t j ≡ take b samples =
    source_makes (task_at job.graph t).kind s.source b (taken_now m (task_at job.graph t) t) in
    let after_is : made_now job after t j ≡ take (b + c) samples =
    source_makes (task_at job.graph t).kind s.source (after.begun t)
    (taken_now after (task_at job.graph t) t) ∙ ap (λ n. take n samples) (now ∙ many) in
    let begins : IsPrefix (m.put t j) (take b samples) = rw before_is at (ran.puts j lt) in
    let long : length (take b samples) ≡ b = take_full b samples (omega arith) in
    let all : length (m.put t j) ≡ b = s.all_put in
    let whole : m.put t j ≡ take b samples =
    prefix_whole (m.put t j) (take b samples) begins (omega arith) in
    let both : m.put t j ++ vs ≡ take (b + c) samples =
    ap (λ l. l ++ vs) whole ∙ ap (λ l. take b samples ++ l) s.samples
    ∙ sym (take-add b c samples) in
    record {
      moved = moved_signal job m t j p n vs next s.signal (omega arith);
      numbered = s.signal.numbered;
      place = s.signal.place;
      staying = s.signal.staying;
      taken = λ k. refl;
      put = put;
      other_puts = λ i apart. put_else job m t j p n vs next i apart;
      begun = inl (s.source, now, s.may_begin);
      made = rw put
          (rw after_is ([], append-nil (m.put t j ++ vs) ∙ both));
      exchanged = rw s.source tt;
    }
  where
    source_makes : (kind : Kind) → (task_at job.graph t).kind ≡ Source
        → (b : ℕ) (taken : List (List ℤ))
        → output_list (samples_at job t) taken (task_at job.graph t) b j ≡ take b (samples_at job t)
    source_makes kind e b taken = rw e refl

pub next_samples_keep : (job : Job) (m : Moment) (t j p n : ℕ) (vs : List ℤ) → IsGraph job.graph
    → t < length job.graph.tasks → p < length job.graph.phasers
    → IsNextSamples job m t j p n vs → HasRun job m
    → HasRun job (after_signals job t j p n vs (further (m.begun t) vs) m)
next_samples_keep job m t j p n vs is there pp s ran =
    signals_keep job m (after_signals job t j p n vs (further (m.begun t) vs) m) t j p n vs is there
    pp
    (next_samples_are job m t j p n vs s (ran.tasks t there)) ran

-- ---- waits

moved_wait : (job : Job) (m : Moment) (t k p n : ℕ) (outcomes : List Outcome) (begun : ℕ)
    → IsAnsweredWaits job m t k p n outcomes → m.begun t ≤ begun
    → HasMoved job m (after_waits t k p n outcomes begun m) t p (Waited n (length outcomes))
moved_wait job m t k p n outcomes begun s le = record {
  accepted = s.accepted;
  here = at_same p (Waited n (length outcomes) ∷ m.history p) m.history;
  elsewhere = λ q apart. at_other p (Waited n (length outcomes) ∷ m.history p) m.history q apart;
  offset = refl;
  onward = (let b : with_at t begun m.begun t ≡ begun = at_same t begun m.begun in omega arith);
  others = λ u apart. record {
    offset = refl;
    begun = at_other t begun m.begun u apart;
    taken = λ i.
        ap (λ f. f i)
        (at_other t (with_at k (m.taken t k ++ map number outcomes) (m.taken t)) m.taken u
        apart);
    put = λ j. refl;
  };
  numbers = λ q u. refl;
}

taken_here : (m : Moment) (t k p n : ℕ) (outcomes : List Outcome) (begun : ℕ)
    → (after_waits t k p n outcomes begun m).taken t k ≡ m.taken t k ++ map number outcomes
taken_here m t k p n outcomes begun =
    ap (λ f. f k) (at_same t (with_at k (m.taken t k ++ map number outcomes) (m.taken t)) m.taken)
    ∙ at_same k (m.taken t k ++ map number outcomes) (m.taken t)

taken_else : (m : Moment) (t k p n : ℕ) (outcomes : List Outcome) (begun i : ℕ) → i ≢ k
    → (after_waits t k p n outcomes begun m).taken t i ≡ m.taken t i
taken_else m t k p n outcomes begun i apart =
    ap (λ f. f i) (at_same t (with_at k (m.taken t k ++ map number outcomes) (m.taken t)) m.taken)
    ∙ at_other k (m.taken t k ++ map number outcomes) (m.taken t) i apart

-- the first wait of a step
pub first_waits_are : (job : Job) (m : Moment) (t k p n : ℕ) (outcomes : List Outcome)
    → IsFirstWaits job m t k p n outcomes
    → WaitsAll job m (after_waits t k p n outcomes (further (m.begun t) outcomes) m) t k p n
    outcomes
first_waits_are job m t k p n outcomes s =
    record {
      moved = moved_wait job m t k p n outcomes (further (m.begun t) outcomes) s.wait
          (let many = further-length (m.begun t) outcomes in omega arith);
      numbered = s.wait.numbered;
      few = s.wait.few;
      place = s.wait.place;
      staying = s.wait.staying;
      answered = s.wait.answered;
      taken = taken_here m t k p n outcomes (further (m.begun t) outcomes);
      other_takes = λ i apart. taken_else m t k p n outcomes (further (m.begun t) outcomes) i apart;
      put = λ j. refl;
      begun = inl (
        s.first,
        at_same t (further (m.begun t) outcomes) m.begun,
        s.block,
        s.may_begin,
      );
    }

pub first_waits_keep : (job : Job) (m : Moment) (t k p n : ℕ) (outcomes : List Outcome)
    → IsGraph job.graph → t < length job.graph.tasks → p < length job.graph.phasers
    → IsFirstWaits job m t k p n outcomes → HasRun job m
    → HasRun job (after_waits t k p n outcomes (further (m.begun t) outcomes) m)
first_waits_keep job m t k p n outcomes is there pp s ran =
    waits_keep job m (after_waits t k p n outcomes (further (m.begun t) outcomes) m) t k p n
    outcomes is there pp
    (first_waits_are job m t k p n outcomes s) ran
