-- One event of one task keeps what a moment has of the whole.
use Rattle.std.proofs.Common.{◌≡◌, ◌≢◌, ℕ, ◌<◌, ◌≤◌, Bool, true, false, ◌||◌, cond, eqb, List, [], ◌∷◌, Some, ℤ, length, map, refl, sym, ap, subst, ◌∙◌, arith, ◌⊎◌, inl, inr}
use Rattle.std.proofs.lemmas.Bool.{eqb-true, ne_eqb}
use Rattle.phase_accum.specs.declared.outcome.Outcome.{Outcome}
use Rattle.phase_history.specs.declared.event.Event.{Event}
use Rattle.phase_history.specs.declared.event.Event.TheVariants.{Signalled, Waited, Dropped}
use Rattle.phase_history.specs.Histories.{History, IsBeginning, start_of}
use Rattle.phase_history.specs.Legal.{IsLegal}
use Rattle.phase_history.specs.Others.{is_by, IsUsed, OthersCame}
use Rattle.phase_base.specs.Lists.{is_in}
use Rattle.phase_history.specs.Sent.{NamesAll, IsSilent}
use Rattle.phase_history.proofs.OthersEvents.{OthersCame-refl, OthersCame-event, phases_signalled-others}
use Rattle.phase_history.proofs.Used.{IsUsed-longer}
use Rattle.graph_base.specs.declared.line.Parent.{Parent}
use Rattle.graph_base.specs.Graphs.{phaser_at}
use Rattle.graph_base.specs.TaskLines.{IsGraph}
use Rattle.stream_lists.specs.Jobs.{Job}
use Rattle.stream_lists.proofs.Growing.{filter_map-same}
use Rattle.graph_runs.specs.Moments.{one, Moment, HasRun, PhaserRan, TaskRan, limits_at, numbers_on, IsRegistered}
use Rattle.graph_runs.specs.Moves.{HasGrown, HasMoved, SignalsAll, Signals, WaitsAll, Waits, Leaves}
use Rattle.graph_runs.proofs.Numbers.{in_numbers}
use Rattle.graph_runs.proofs.OnLines.{on_phaser}
use Rattle.graph_runs.proofs.Framed.{task_later, part_came}
use Rattle.graph_runs.proofs.OwnEvents.{eq_case, history_by, own_signals, own_waits}
use Rattle.graph_runs.proofs.OwnLeaves.{own_leave}

-- what an event of number n leaves of a phaser's history
pub record Leaves_history (job : Job) (p n : ℕ) (event : Event) (h : History) : Type 0 where
  pub legal : IsLegal (limits_at job p) (event ∷ h)
  pub names : NamesAll (phaser_at job.graph p).single (event ∷ h)
  pub by : (x : ℕ) → x ≢ n → is_by x event ≡ false
  pub starts : (x : ℕ) → start_of (event ∷ h) x ≡ start_of h x

not_same : (a b : ℕ) → a ≢ b → eqb a b ≡ false
not_same a b apart = ne_eqb a b (λ e. apart e)

silent_event : (event : Event) (h : History) (x : ℕ) → is_by x event ≡ false
    → start_of (event ∷ h) x ≡ start_of h x → IsSilent h x → IsSilent (event ∷ h) x
silent_event event h x other starts silent = record {
  nothing =
      phases_signalled-others (event ∷ []) h x (ap (λ b. cond b (event ∷ []) []) other)
      ∙ silent.nothing;
  from_0 = λ start is. silent.from_0 start (sym starts ∙ is);
}

numbers_same : (job : Job) (before after : Moment) (p : ℕ)
    → ((t : ℕ) → after.number p t ≡ before.number p t)
    → numbers_on job after p ≡ numbers_on job before p
numbers_same job before after p same =
    filter_map-same (after.number p) (before.number p) 0 (length job.graph.tasks) (λ t lt. same t)

pub phaser_keeps : (job : Job) (before after : Moment) (t p n : ℕ) (event : Event)
    → t < length job.graph.tasks → p < length job.graph.phasers
    → HasMoved job before after t p event → before.number p t ≡ Some n
    → Leaves_history job p n event (before.history p)
    → (q : ℕ) → q < length job.graph.phasers → PhaserRan job before q → PhaserRan job after q
phaser_keeps job before after t p n event there pp moved numbered leaves q qq ran = record {
  legal = history_by job before after t p event (λ h. IsLegal (limits_at job q) h) q moved legal
      (λ apart. ran.legal);
  names = history_by job before after t p event (λ h. NamesAll (phaser_at job.graph q).single h) q
      moved names (λ apart. ran.names);
  distinct =
      λ u w a lu lw eu ew.
      ran.distinct u w a lu lw (sym (moved.numbers q u) ∙ eu) (sym (moved.numbers q w) ∙ ew);
  used = λ u a e.
      (let was : IsUsed (before.history q) a = ran.used u a (sym (moved.numbers q u) ∙ e) in
      history_by job before after t p event (λ h. IsUsed h a) q moved
      (λ same. IsUsed-longer (limits_at job q) (before.history q) (event ∷ before.history q) a
      (legal same) (record { later = event ∷ []; is = refl }) was)
      (λ apart. was));
  strangers =
      λ x none.
      (let out : is_in x (numbers_on job before q) ≡ false =
      ap (λ l. is_in x l) (sym (numbers_same job before after q (moved.numbers q)))
      ∙ none in
      let silent : IsSilent (before.history q) x = ran.strangers x out in
      history_by job before after t p event (λ h. IsSilent h x) q moved
      (λ same. silent_event event (before.history q) x (leaves.by x (other x same out))
      (starts x same) silent)
      (λ apart. silent));
}
  where
    legal : q ≡ p → IsLegal (limits_at job q) (event ∷ before.history q)
    legal same =
        let P : ℕ → Type 0 = λ x. IsLegal (limits_at job x) (event ∷ before.history x) in
        subst P (sym same) leaves.legal

    names : q ≡ p → NamesAll (phaser_at job.graph q).single (event ∷ before.history q)
    names same =
        subst (λ (x : ℕ). NamesAll (phaser_at job.graph x).single (event ∷ before.history x)) (sym
        same) leaves.names

    starts : (x : ℕ) → q ≡ p → start_of (event ∷ before.history q) x ≡ start_of (before.history q) x
    starts x same =
        subst (λ (y : ℕ). start_of (event ∷ before.history y) x ≡ start_of (before.history y) x)
        (sym same) (leaves.starts x)

    other : (x : ℕ) → q ≡ p → is_in x (numbers_on job before q) ≡ false → x ≢ n
    other x same out me =
        let inside : is_in n (numbers_on job before q) ≡ true =
        in_numbers (before.number q) 0 (length job.graph.tasks) t n (omega arith) (omega arith)
        (subst (λ (y : ℕ). before.number y t ≡ Some n) (sym same) numbered) in
        let here : is_in x (numbers_on job before q) ≡ true =
        ap (λ y. is_in y (numbers_on job before q)) me ∙ inside in
        let f : true ≡ false = sym here ∙ out in cc

one_in : (x a : ℕ) → is_in x (a ∷ []) ≡ true → x ≡ a
one_in x a e = by (eqb a x) refl e
  where
    by : (b : Bool) → eqb a x ≡ b → (b || false) ≡ true → x ≡ a
    by true is f = sym (eqb-true a x is)
    by false is f = absurd (let no : false ≡ true = f in cc)

pub run_keeps : (job : Job) (before after : Moment) (t p n : ℕ) (event : Event) → IsGraph job.graph
    → t < length job.graph.tasks → p < length job.graph.phasers
    → HasMoved job before after t p event → before.number p t ≡ Some n
    → Leaves_history job p n event (before.history p)
    → HasRun job before → (HasGrown job before after t → TaskRan job after t) → HasRun job after
run_keeps job before after t p n event is there pp moved numbered leaves ran own = record {
  phasers = phasers;
  tasks = λ u there_u. tasks u there_u (eq_case u t);
}
  where
    phasers : (q : ℕ) → q < length job.graph.phasers → PhaserRan job after q
    phasers q qq =
        phaser_keeps job before after t p n event there pp moved numbered leaves q qq
        (ran.phasers q qq)

    grown : (u : ℕ) → u < length job.graph.tasks → HasGrown job before after u
    grown u there_u = record {
      was = λ q on. (ran.phasers q (on_phaser job u q is there_u on)).legal;
      legal = λ q on. (phasers q (on_phaser job u q is there_u on)).legal;
      beginning =
          λ q on. history_by job before after t p event (λ h. IsBeginning (before.history q) h) q
          moved (λ same. record { later = event ∷ []; is = refl })
          (λ apart. record { later = []; is = refl });
    }

    came : (u q a : ℕ) → u < length job.graph.tasks → u ≢ t → q < length job.graph.phasers
        → before.number q u ≡ Some a → OthersCame (a ∷ []) (before.history q) (after.history q)
    came u q a there_u other qq at =
        history_by job before after t p event (λ h. OthersCame (a ∷ []) (before.history q) h) q
        moved
        (λ same. OthersCame-event (a ∷ []) (before.history q) event (λ x inside. leaves.by x (λ me.
        (let mine : before.number q u ≡ Some n =
        at ∙ ap (λ y. Some y) (sym (one_in x a inside) ∙ me) in
        other ((ran.phasers q qq).distinct u t n there_u there mine
        (rw same numbered))))))
        (λ apart. OthersCame-refl (a ∷ []) (before.history q))

    tasks : (u : ℕ) → u < length job.graph.tasks → (u ≡ t) ⊎ (u ≢ t) → TaskRan job after u
    tasks u there_u (inl same) =
        rw same (own (grown t there))
    tasks u there_u (inr other) =
        task_later job before after u is there_u (grown u there_u)
        (record {
          same = moved.others u other;
          number = λ q. moved.numbers q u;
          part = λ q a at.
              part_came a (before.history q) (after.history q)
              (came u q a there_u other
              (on_phaser job u q is there_u ((ran.tasks u there_u).lines q a at)) at);
          children = λ c q w there_c e same none. sym (moved.numbers q c) ∙ none;
          parent = λ w e. parent w (eq_case w.task t);
        }) (ran.tasks u there_u)
      where
        parent : (w : Parent) → (w.task ≡ t) ⊎ (w.task ≢ t)
            → (after.offset w.task ≡ before.offset w.task)
            × (before.begun w.task ≤ after.begun w.task)
            × (IsRegistered before w.task → IsRegistered after w.task)
        parent w (inr apart) =
            let s = moved.others w.task apart in
            (s.offset, omega (arith, s.begun), λ r. (r.0, r.1, moved.numbers r.0 w.task ∙ r.2))
        parent w (inl same) =
            let o : after.offset w.task ≡ before.offset w.task =
            ap (λ x. after.offset x) same ∙ moved.offset
            ∙ ap (λ x. before.offset x) (sym same) in
            let b : before.begun w.task ≤ after.begun w.task =
            (rw same moved.onward) in
            (o, b, λ r. (r.0, r.1, moved.numbers r.0 w.task ∙ r.2))

-- ---- the three events

-- a signal keeps what a moment has
pub signals_keep : (job : Job) (before after : Moment) (t j p n : ℕ) (vs : List ℤ)
    → IsGraph job.graph
    → t < length job.graph.tasks → p < length job.graph.phasers
    → SignalsAll job before after t j p n vs → HasRun job before → HasRun job after
signals_keep job before after t j p n vs is there pp s ran =
    run_keeps job before after t p n (Signalled n (map one vs) (phaser_at job.graph p).single) is
    there pp s.moved s.numbered
    (record {
      legal = ((ran.phasers p pp).legal, s.moved.accepted);
      names = (refl, (ran.phasers p pp).names);
      by = λ x other. not_same n x (λ e. other (sym e));
      starts = λ x. refl;
    }) ran (λ grown. own_signals job before after t j p n vs is there s (ran.tasks t there))

-- so does a wait
pub waits_keep : (job : Job) (before after : Moment) (t k p n : ℕ) (outcomes : List Outcome)
    → IsGraph job.graph → t < length job.graph.tasks → p < length job.graph.phasers
    → WaitsAll job before after t k p n outcomes → HasRun job before → HasRun job after
waits_keep job before after t k p n outcomes is there pp s ran =
    run_keeps job before after t p n (Waited n (length outcomes)) is there pp s.moved s.numbered
    (record {
      legal = ((ran.phasers p pp).legal, s.moved.accepted);
      names = (ran.phasers p pp).names;
      by = λ x other. not_same n x (λ e. other (sym e));
      starts = λ x. refl;
    }) ran (λ grown. own_waits job before after t k p n outcomes is there s (ran.tasks t there))

-- and leaving
pub leave_keeps : (job : Job) (before after : Moment) (t p n : ℕ) → IsGraph job.graph
    → t < length job.graph.tasks → p < length job.graph.phasers
    → Leaves job before after t p n → HasRun job before → HasRun job after
leave_keeps job before after t p n is there pp s ran =
    run_keeps job before after t p n (Dropped n) is there pp s.moved s.numbered
    (record {
      legal = ((ran.phasers p pp).legal, s.moved.accepted);
      names = (ran.phasers p pp).names;
      by = λ x other. not_same n x (λ e. other (sym e));
      starts = λ x. refl;
    }) ran (λ grown. own_leave job before after t p n is there grown s (ran.tasks t there))

-- one value, and one outcome
pub signal_keeps : (job : Job) (before after : Moment) (t j p n : ℕ) (v : ℤ) → IsGraph job.graph
    → t < length job.graph.tasks → p < length job.graph.phasers
    → Signals job before after t j p n v → HasRun job before → HasRun job after
signal_keeps job before after t j p n v = signals_keep job before after t j p n (v ∷ [])

pub wait_keeps : (job : Job) (before after : Moment) (t k p n : ℕ) (outcome : Outcome)
    → IsGraph job.graph → t < length job.graph.tasks → p < length job.graph.phasers
    → Waits job before after t k p n outcome → HasRun job before → HasRun job after
wait_keeps job before after t k p n outcome =
    waits_keep job before after t k p n (outcome ∷ [])
