-- A part stays one under others' events, and goes on by the task's own.
use Rattle.std.proofs.Common.{◌≡◌, ◌≢◌, ℕ, ◌+◌, ◌<◌, true, false, eqb, List, [], ◌∷◌, ◌++◌, Some, Ok, ℤ, length, refl, sym, ap, subst, ◌∙◌, arith, ◌⊎◌, inl, inr}
use Rattle.std.specs.Prelude.{is_some}
use Rattle.std.proofs.lemmas.Bool.{ne_eqb, eq-eqb}
use Rattle.std.proofs.lemmas.List.{length-map}
use Rattle.phase_accum.specs.declared.outcome.Outcome.{Outcome}
use Rattle.phase_history.specs.declared.event.Event.{Event}
use Rattle.phase_history.specs.declared.event.Event.TheVariants.{Waited, Dropped}
use Rattle.phase_base.specs.declared.entry.Entry.{Entry}
use Rattle.phase_base.specs.Members.{entry_of}
use Rattle.phase_history.specs.declared.got.Got.TheVariants.{Ended}
use Rattle.phase_history.specs.Histories.{History, IsBeginning, HasNoSignaller, has_dropped, start_of, members_of, wait_phase, phases_waited}
use Rattle.phase_history.specs.Replies.{wait_reply}
use Rattle.phase_history.specs.Laws.{HasCounted}
use Rattle.phase_history.proofs.Alive.{alive_law}
use Rattle.phase_history.proofs.Used.{start_from}
use Rattle.phase_history.proofs.Steps.{member_entry_is}
use Rattle.phase_history.proofs.LawProofs.{counted_of}
use Rattle.phase_history.proofs.Left.{length-received}
use Rattle.phase_history.proofs.Answered.{ended_tells}
use Rattle.stream_lists.specs.Lists.{number}
use Rattle.phase_history.specs.Phases.{received_by}
use Rattle.phase_history.specs.Legal.{IsLegal, IsAccepted}
use Rattle.phase_history.proofs.Beginnings.{IsBeginning-refl}
use Rattle.graph_base.specs.Graphs.{task_at}
use Rattle.graph_base.specs.TaskLines.{IsGraph}
use Rattle.stream_lists.specs.Jobs.{Job}
use Rattle.graph_runs.specs.Moments.{Moment, TaskRan, OnLine, OnInput, RanOut, HasEnded, limits_at, value_at, input_at}
use Rattle.graph_runs.specs.Moves.{further, SameTask, HasGrown, OthersMoved, PartStays, IsStaying, MayBeginTo, HasMoved, SignalsAll, WaitsAll, NoneDue}
use Rattle.graph_runs.specs.Turned.{with_at, after_signals, after_waits, after_leave}
use Rattle.graph_runs.proofs.Framed.{part_came, task_later, ended_later}
use Rattle.graph_runs.proofs.OwnEvents.{eq_case, own_signals, own_waits}
use Rattle.graph_runs.proofs.OwnLeaves.{own_leave}
use Rattle.graph_runs.proofs.InBlocks.{next_signals_are, next_samples_are, first_waits_are}
use Rattle.graph_runs.proofs.Nexts.{further-length}
use Rattle.graph_runs.proofs.Turned.{exchange_wait_is, next_leave_is, at_same}
use Rattle.graph_runs.specs.Parts.{HasPart, SeesOthers, SeesOwn, put_event, AreNextValues, AreNextSamples, BeginsSteps, IsExchange, HasMovedOn, HasSeen, HasPut, HasGot, LeavesPart}

-- ---- one history later

-- the moment with this history on phaser p
abbrev pub with_history : ℕ → History → Moment → Moment
with_history p h m = record m { history = with_at p h m.history }

pub same_at : (p : ℕ) (h : History) (m : Moment) → (with_history p h m).history p ≡ h
same_at p h m = let here : eqb p p ≡ true = eq-eqb p p refl in rw here refl

pub other_at : (p : ℕ) (h : History) (m : Moment) (q : ℕ) → q ≢ p
    → (with_history p h m).history q ≡ m.history q
other_at p h m q apart = let other : eqb q p ≡ false = ne_eqb q p (λ e. apart e) in rw other refl

-- what holds of the history there, and of the others
pub where_at : (p : ℕ) (h : History) (m : Moment) (q : ℕ) (P : History → Type 0) → (q ≡ p → P h)
    → P (m.history q)
    → P ((with_history p h m).history q)
where_at p h m q P here there = by (eq_case q p)
  where
    by : (q ≡ p) ⊎ (q ≢ p) → P ((with_history p h m).history q)
    by (inl e) = subst P (sym (ap (λ x. (with_history p h m).history x) e ∙ same_at p h m)) (here e)
    by (inr apart) = subst P (sym (other_at p h m q apart)) there

pub no_change : (n : ℕ) (h : History) → PartStays n h h
no_change n h = record { sent = refl; dropped = refl; signalled = refl; received = λ value. refl }

some_is : (a b : ℕ) → Some a ≡ Some b → a ≡ b
some_is a b e = cc

module _ (job : Job) (m : Moment) (t p n : ℕ) (h : History) (s : SeesOthers job m t p n h) where
  same : SameTask m (with_history p h m) t
  same = record { offset = refl; begun = refl; taken = λ k. refl; put = λ j. refl }

  stays_part : (q u : ℕ) → m.number q t ≡ Some u
      → PartStays u (m.history q) ((with_history p h m).history q)
  stays_part q u at =
      where_at p h m q (λ x. PartStays u (m.history q) x)
      (λ e.
      (let N : ℕ → Type 0 = λ x. m.number x t ≡ Some u in
      let is : n ≡ u = some_is n u (sym s.numbered ∙ subst N e at) in
      let A : ℕ → Type 0 = λ x. PartStays x (m.history q) h in
      let B : ℕ → Type 0 = λ x. PartStays n (m.history x) h in
      subst A is (subst B (sym e) (part_came n (m.history p) h s.others))))
      (no_change u (m.history q))

  grown : HasPart job m t → HasGrown job m (with_history p h m) t
  grown part = record {
    was = part.legal;
    legal = λ q on.
        where_at p h m q (λ x. IsLegal (limits_at job q) x)
        (λ e. (let L : ℕ → Type 0 = λ x. IsLegal (limits_at job x) h in subst L (sym e) s.legal))
        (part.legal q on);
    beginning = λ q on.
        where_at p h m q (λ x. IsBeginning (m.history q) x)
        (λ e. (let B : ℕ → Type 0 = λ x. IsBeginning (m.history x) h in
        subst B (sym e) (record { later = s.others.later; is = s.others.is })))
        (IsBeginning-refl (m.history q));
  }

  moved : OthersMoved job m (with_history p h m) t
  moved = record {
    same = same;
    number = λ q. refl;
    part = λ q u at. stays_part q u at;
    children = λ c q u there e by none. none;
    parent = λ u e. (refl, omega arith, λ is. is);
  }

  later_part : IsGraph job.graph → t < length job.graph.tasks → HasPart job m t
      → HasPart job (with_history p h m) t
  later_part is there part = record {
    ran = task_later job m (with_history p h m) t is there (grown part) moved part.ran;
    legal = (grown part).legal;
  }

  pub later_staying : IsStaying m t → IsStaying (with_history p h m) t
  later_staying staying = λ q u at. (stays_part q u at).dropped ∙ staying q u at

  pub later_ended : IsGraph job.graph → t < length job.graph.tasks → HasPart job m t
      → HasEnded job m t
      → HasEnded job (with_history p h m) t
  later_ended is there part ended =
      ended_later job m (with_history p h m) t is there (grown part) same ended

  pub seen : IsGraph job.graph → t < length job.graph.tasks → HasPart job m t
      → HasSeen job m (with_history p h m) t p h
  seen is there part = record {
    moved = record {
      part = later_part is there part;
      here = same_at p h m;
      elsewhere = λ q apart. other_at p h m q apart;
      numbers = λ q u. refl;
      offset = λ u. refl;
      others_begun = λ u apart. refl;
    };
    same = same;
    left = λ q u at. (stays_part q u at).dropped;
    staying = later_staying;
    ended = λ ended. later_ended is there part ended;
  }

-- ---- one event of the task

-- the history with the event, and the others
event_at : (p : ℕ) (event : Event) (before : History) (m after : Moment)
    → after.history p ≡ event ∷ (with_history p before m).history p
    → after.history p ≡ event ∷ before
event_at p event before m after came = came ∙ ap (λ h. event ∷ h) (same_at p before m)

module _ (job : Job) (m after : Moment) (t p n : ℕ) (event : Event) (before : History)
    (part : HasPart job m t) (legal : IsLegal (limits_at job p) (event ∷ before))
    (moved : HasMoved job (with_history p before m) after t p event) where
  elsewhere : (q : ℕ) → q ≢ p → after.history q ≡ m.history q
  elsewhere q apart = moved.elsewhere q apart ∙ other_at p before m q apart

  after_where : (q : ℕ) (P : History → Type 0) → (q ≡ p → P (event ∷ before)) → P (m.history q)
      → P (after.history q)
  after_where q P here there = by (eq_case q p)
    where
      by : (q ≡ p) ⊎ (q ≢ p) → P (after.history q)
      by (inl e) = subst P (sym (ap (λ x. after.history x) e ∙ event_at p event before m after moved.here)) (here e)
      by (inr apart) = subst P (sym (elsewhere q apart)) there

  legal_after : (q : ℕ) → OnLine (task_at job.graph t) q
      → IsLegal (limits_at job q) (after.history q)
  legal_after q on =
      after_where q (λ h. IsLegal (limits_at job q) h)
      (λ e. (let L : ℕ → Type 0 = λ x. IsLegal (limits_at job x) (event ∷ before) in subst L (sym e) legal))
      (part.legal q on)

  moved_on : TaskRan job after t → ((u : ℕ) → after.offset u ≡ m.offset u)
      → HasMovedOn job m after t p (event ∷ before)
  moved_on ran offset = record {
    part = record { ran = ran; legal = legal_after };
    here = event_at p event before m after moved.here;
    elsewhere = elsewhere;
    numbers = moved.numbers;
    offset = offset;
    others_begun = λ u apart. (moved.others u apart).begun;
  }

  -- it has left none of its phasers IsBeginning-refl
  staying_after : ((h : History) (u : ℕ) → has_dropped (event ∷ h) u ≡ has_dropped h u)
      → IsStaying m t → IsStaying (with_history p before m) t → IsStaying after t
  staying_after same staying staying_before = λ q u at.
      (let at1 : m.number q t ≡ Some u = sym (moved.numbers q t) ∙ at in
      after_where q (λ h. has_dropped h u ≡ false)
      (λ e. (let N : ℕ → Type 0 = λ x. m.number x t ≡ Some u in
      same before u ∙ ap (λ h. has_dropped h u) (sym (same_at p before m)) ∙ staying_before p u (subst N e at1)))
      (staying q u at1))

-- ---- each event

module _ (job : Job) (m : Moment) (t p n : ℕ) (before : History) (is : IsGraph job.graph)
    (there : t < length job.graph.tasks) (part : HasPart job m t) where
  abbrev now : Moment
  now = with_history p before m

  may_begin_now : {X : Type 0} (xs : List X) → MayBeginTo job m t (m.begun t + length xs)
      → MayBeginTo job now t (further (m.begun t) xs)
  may_begin_now xs b =
      let B : ℕ → Type 0 = λ steps. MayBeginTo job now t steps in
      subst B (sym (further-length (m.begun t) xs))
      (record { taken = b.taken; cut = b.cut; samples = b.samples; children = b.children })

  module _ (j : ℕ) (vs : List ℤ) (sees : SeesOwn job m t p n (put_event job p n vs) before) where
    abbrev event : Event
    event = put_event job p n vs

    others : SeesOthers job m t p n before
    others = record { numbered = sees.numbered; others = sees.others; legal = sees.legal.0 }

    accepted : IsAccepted (limits_at job p) (now.history p) event
    accepted =
        let A : History → Type 0 = λ h. IsAccepted (limits_at job p) h event in
        subst A (sym (same_at p before m)) sees.legal.1

    put_of : (begun steps : ℕ) → begun ≡ steps
        → SignalsAll job now (after_signals job t j p n vs begun now) t j p n vs → IsStaying m t
        → HasPut job m (after_signals job t j p n vs begun now) t j p vs steps (event ∷ before)
    put_of begun steps same signals staying =
        let after = after_signals job t j p n vs begun now in
        let ran = own_signals job now after t j p n vs is there signals
        (later_part job m t p n before others is there part).ran in
        record {
          moved = moved_on job m after t p n event before part sees.legal signals.moved ran
              (λ u. refl);
          begun_is = at_same t begun m.begun ∙ same;
          taken = signals.taken;
          put = signals.put;
          other_puts = signals.other_puts;
          staying = staying_after job m after t p n event before part sees.legal signals.moved
              (λ h u. refl) staying (later_staying job m t p n before others staying);
        }

    pub puts_values : AreNextValues job m t j p vs
        → HasPut job m (after_signals job t j p n vs (m.begun t) now) t j p vs (m.begun t)
        (event ∷ before)
    puts_values next =
        put_of (m.begun t) (m.begun t) refl
        (next_signals_are job now t j p n vs
        (record {
          signal = record {
            accepted = accepted;
            numbered = sees.numbered;
            place = next.place;
            staying = later_staying job m t p n before others next.staying;
          };
          entries = next.entries;
          exchanged = next.exchanged;
        })
        (later_part job m t p n before others is there part).ran)
        next.staying

    pub puts_samples : AreNextSamples job m t j p vs
        → HasPut job m (after_signals job t j p n vs (further (m.begun t) vs) now) t j p vs
        (m.begun t + length vs) (event ∷ before)
    puts_samples next =
        put_of (further (m.begun t) vs) (m.begun t + length vs) (further-length (m.begun t) vs)
        (next_samples_are job now t j p n vs
        (record {
          signal = record {
            accepted = accepted;
            numbered = sees.numbered;
            place = next.place;
            staying = later_staying job m t p n before others next.staying;
          };
          source = next.source;
          may_begin = may_begin_now vs next.may_begin;
          all_put = next.all_put;
          samples = next.samples;
        })
        (later_part job m t p n before others is there part).ran)
        next.staying

  module _ (outcomes : List Outcome)
      (sees : SeesOwn job m t p n (Waited n (length outcomes)) before) where
    waited : SeesOthers job m t p n before
    waited = record { numbered = sees.numbered; others = sees.others; legal = sees.legal.0 }

    abbrev wait : Event
    wait = Waited n (length outcomes)

    wait_accepted : IsAccepted (limits_at job p) (now.history p) wait
    wait_accepted =
        let A : History → Type 0 = λ h. IsAccepted (limits_at job p) h wait in
        subst A (sym (same_at p before m)) sees.legal.1

    module _ (answered : received_by (value_at job p) (Waited n (length outcomes) ∷ before) n
        ≡ received_by (value_at job p) before n ++ outcomes) where
      answered_now : received_by (value_at job p) (wait ∷ now.history p) n
          ≡ received_by (value_at job p) (now.history p) n ++ outcomes
      answered_now =
          let A : History → Type 0 =
          λ h. received_by (value_at job p) (wait ∷ h) n
          ≡ received_by (value_at job p) h n ++ outcomes in
          subst A (sym (same_at p before m)) answered

      got_of : (k begun steps : ℕ) → begun ≡ steps
          → WaitsAll job now (after_waits t k p n outcomes begun now) t k p n outcomes
          → IsStaying m t
          → HasGot job m (after_waits t k p n outcomes begun now) t k p outcomes steps
          (wait ∷ before)
      got_of k begun steps same waits staying =
          let after = after_waits t k p n outcomes begun now in
          let ran = own_waits job now after t k p n outcomes is there waits
          (later_part job m t p n before waited is there part).ran in
          record {
            moved = moved_on job m after t p n wait before part sees.legal waits.moved ran
                (λ u. refl);
            begun_is = at_same t begun m.begun ∙ same;
            taken = waits.taken;
            other_takes = waits.other_takes;
            put = waits.put;
            staying = staying_after job m after t p n wait before part sees.legal waits.moved
                (λ h u. refl) staying (later_staying job m t p n before waited staying);
          }

      pub gets_first : (k : ℕ) → BeginsSteps job m t k p (length outcomes)
          → HasGot job m (after_waits t k p n outcomes (further (m.begun t) outcomes) now) t k p
          outcomes (m.begun t + length outcomes) (wait ∷ before)
      gets_first k next =
          got_of k (further (m.begun t) outcomes) (m.begun t + length outcomes)
          (further-length (m.begun t) outcomes)
          (first_waits_are job now t k p n outcomes
          (record {
            wait = record {
              accepted = wait_accepted;
              numbered = sees.numbered;
              few = next.few;
              place = next.place;
              staying = later_staying job m t p n before waited next.staying;
              answered = answered_now;
            };
            first = next.first;
            block = next.block;
            may_begin = may_begin_now outcomes next.may_begin;
          }))
          next.staying

  pub gets_exchange : (outcome : Outcome) → SeesOwn job m t p n (Waited n 1) before
      → received_by (value_at job p) (Waited n 1 ∷ before) n
      ≡ received_by (value_at job p) before n ++ outcome ∷ []
      → IsExchange job m t p
      → HasGot job m (after_waits t 1 p n (outcome ∷ []) (m.begun t) now) t 1 p (outcome ∷ [])
      (m.begun t) (Waited n 1 ∷ before)
  gets_exchange outcome sees answered next =
      got_of (outcome ∷ []) sees answered 1 (m.begun t) (m.begun t) refl
      (exchange_wait_is job now t p n outcome
      (record {
        wait = record {
          accepted = wait_accepted (outcome ∷ []) sees;
          numbered = sees.numbered;
          few = next.few;
          place = next.place;
          staying = later_staying job m t p n before (waited (outcome ∷ []) sees) next.staying;
          answered = answered_now (outcome ∷ []) sees answered;
        };
        peer = next.peer;
        behind = next.behind;
      }))
      next.staying

  module _ (sees : SeesOwn job m t p n (Dropped n) before) where
    dropping : SeesOthers job m t p n before
    dropping = record { numbered = sees.numbered; others = sees.others; legal = sees.legal.0 }

    pub left_phaser : HasEnded job m t → NoneDue job m t p
        → LeavesPart job m (after_leave p n now) t p (Dropped n ∷ before)
    left_phaser ended none =
        let after = after_leave p n now in
        let part_now = later_part job m t p n before dropping is there part in
        let A : History → Type 0 = λ h. IsAccepted (limits_at job p) h (Dropped n) in
        let ended_now = later_ended job m t p n before dropping is there part ended in
        let leaves = next_leave_is job now t p n (record {
          accepted = subst A (sym (same_at p before m)) sees.legal.1;
          numbered = sees.numbered;
          ended = ended_now;
          children = none;
        }) in
        let grown : HasGrown job now after t = record {
          was = part_now.legal;
          legal = legal_after job m after t p n (Dropped n) before part sees.legal leaves.moved;
          beginning = λ q on. begins q (eq_case q p);
        } in
        let ran = own_leave job now after t p n is there grown leaves part_now.ran in
        record {
          moved = moved_on job m after t p n (Dropped n) before part sees.legal leaves.moved ran (λ u. refl);
          same = record { offset = refl; begun = refl; taken = λ k. refl; put = λ j. refl };
          ended = ended_later job now after t is there grown leaves.same ended_now;
        }
      where
        begins : (q : ℕ) → (q ≡ p) ⊎ (q ≢ p)
            → IsBeginning (now.history q) ((after_leave p n now).history q)
        begins q (inl e) =
            let B : ℕ → Type 0 = λ x. IsBeginning (now.history x) ((after_leave p n now).history x) in
            subst B (sym e) (record { later = Dropped n ∷ []; is = at_same p (Dropped n ∷ now.history p) now.history })
        begins q (inr apart) = record { later = []; is = ne_at q apart }
          where
            ne_at : (q : ℕ) → q ≢ p → (after_leave p n now).history q ≡ now.history q
            ne_at q apart = let other : eqb q p ≡ false = ne_eqb q p (λ e. apart e) in rw other refl

-- ---- the end of an input

ran_out : (job : Job) (m : Moment) (t k n : ℕ) (h : History) → IsGraph job.graph
    → t < length job.graph.tasks
    → HasPart job m t → SeesOthers job m t (input_at (task_at job.graph t) k) n h → IsStaying m t
    → k < length (task_at job.graph t).inputs
    → wait_reply (value_at job (input_at (task_at job.graph t) k)) (limits_at job (input_at (task_at job.graph t) k)) h n
    ≡ Ok Ended
    → RanOut (with_history (input_at (task_at job.graph t) k) h m) (task_at job.graph t) t k
ran_out job m t k n h is there part sees staying lt reply =
    let x = input_at (task_at job.graph t) k in
    let after = with_history x h m in
    let part_now = later_part job m t x n h sees is there part in
    let on : OnInput job after t k x n = rw sees.numbered at (part_now.ran.inputs k lt) in
    let here : after.history x ≡ h = same_at x h m in
    let start : start_of h n ≡ Some on.start = ap (λ x. start_of x n) (sym here) ∙ on.start_is in
    let kept : has_dropped h n ≡ false =
    ap (λ x. has_dropped x n) (sym here) ∙ later_staying job m t x n h sees staying x n sees.numbered in
    let limits = limits_at job x in
    let value = value_at job x in
    let alive = (alive_law limits h n sees.legal).1 (ap is_some start, kept) in
    let found = start_from (entry_of (members_of h) n) alive in
    let counted : HasCounted h n found.0 = counted_of limits h n found.0 sees.legal found.1 in
    let same : Some counted.start ≡ Some on.start = sym counted.start_is ∙ start in
    let begins : counted.start.wait_phase ≡ on.start.wait_phase = ap (λ e. e.wait_phase) (entry_is counted.start on.start same) in
    let at : on.start.wait_phase ≡ m.offset t = on.at in
    let waits : counted.start.wait_phase + phases_waited h n ≡ found.0.wait_phase = counted.waits in
    let asks : wait_phase h n ≡ found.0.wait_phase =
    ap (λ e. e.wait_phase) (member_entry_is (members_of h) n found.0 found.1) in
    let count : length (received_by value h n) ≡ phases_waited h n = length-received value limits h n sees.legal in
    let took : length (m.taken t k) ≡ length (received_by value h n) =
    ap length on.taken ∙ length-map (received_by value (after.history x) n) number ∙ ap (λ y. length (received_by value y n)) here in
    let tells = ended_tells value limits h n reply in
    (subst HasNoSignaller (sym here) tells.0, rw here (omega (arith, tells.1)))
  where
    entry_is : (a b : Entry) → Some a ≡ Some b → a ≡ b
    entry_is a b e = cc

pub sees_end : (job : Job) (m : Moment) (t k n : ℕ) (h : History) → IsGraph job.graph
    → t < length job.graph.tasks
    → HasPart job m t → SeesOthers job m t (input_at (task_at job.graph t) k) n h → IsStaying m t
    → k < length (task_at job.graph t).inputs
    → wait_reply (value_at job (input_at (task_at job.graph t) k)) (limits_at job (input_at (task_at job.graph t) k)) h n
    ≡ Ok Ended
    → HasSeen job m (with_history (input_at (task_at job.graph t) k) h m) t (input_at (task_at job.graph t) k) h
    × RanOut (with_history (input_at (task_at job.graph t) k) h m) (task_at job.graph t) t k
sees_end job m t k n h is there part sees staying lt reply = (
  seen job m t (input_at (task_at job.graph t) k) n h sees is there part,
  ran_out job m t k n h is there part sees staying lt reply,
)
