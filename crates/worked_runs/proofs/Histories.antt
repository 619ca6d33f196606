-- How histories grow by the events of a run.
use Rattle.std.proofs.Common.{◌≡◌, ◌≢◌, ℕ, ◌<◌, ◌||◌, Bool, true, false, cond, eqb, eqb-true, eq-eqb, List, [], ◌∷◌, ◌++◌, length, refl, sym, ap, ◌∙◌, arith}
use Rattle.std.proofs.lemmas.List.{append_assoc}
use Rattle.phase_history.specs.declared.event.Event.{Event}
use Rattle.phase_history.specs.Histories.{History, IsBeginning}
use Rattle.phase_base.specs.Lists.{is_in}
use Rattle.graph_base.specs.TaskLines.{IsGraph}
use Rattle.stream_lists.specs.Jobs.{Job}
use Rattle.graph_runs.specs.Moments.{Moment, HasRun}
use Rattle.graph_runs.proofs.OnLines.{on_phaser}
use Rattle.graph_runs.specs.Moves.{HasGrown, OthersMoved}
use Rattle.graph_runs.specs.Turned.{with_at}
use Rattle.worked_runs.specs.Runs.{TaskEvent, sample, signal, first_wait, exchange_wait, leave, child, child_now, after_turn, after_all}

pub event_begins : (p q : ℕ) (event : Event) (h : ℕ → History)
    → IsBeginning (h q) (with_at p (event ∷ h p) h q)
event_begins p q event h = by (eqb q p) refl
  where
    by : (b : Bool) → eqb q p ≡ b → IsBeginning (h q) (cond b (event ∷ h p) (h q))
    by true e =
        let same : q ≡ p = eqb-true q p e in
        record { later = event ∷ []; is = ap (λ x. event ∷ h x) (sym same) }
    by false e = record { later = []; is = refl }

pub turn_begins : (job : Job) (turn : TaskEvent) (m : Moment) (q : ℕ)
    → IsBeginning (m.history q) ((after_turn job turn m).history q)
turn_begins job (sample t j p n vs) m q = event_begins p q _ m.history
turn_begins job (signal t j p n vs) m q = event_begins p q _ m.history
turn_begins job (first_wait t k p n outcomes) m q = event_begins p q _ m.history
turn_begins job (exchange_wait t p n outcome) m q = event_begins p q _ m.history
turn_begins job (leave t p n) m q = event_begins p q _ m.history
turn_begins job (child t p n c a mode) m q = event_begins p q _ m.history
turn_begins job (child_now t p n c a) m q = event_begins p q _ m.history

pub turns_begin : (job : Job) (turns : List TaskEvent) (m : Moment) (q : ℕ)
    → IsBeginning (m.history q) ((after_all job m turns).history q)
turns_begin job [] m q = record { later = []; is = refl }
turns_begin job (turn ∷ turns) m q =
    let first = turn_begins job turn m q in
    let rest = turns_begin job turns (after_turn job turn m) q in
    record {
      later = rest.later ++ first.later;
      is = rest.is ∙ ap (λ h. rest.later ++ h) first.is
          ∙ sym (append_assoc rest.later first.later (m.history q));
    }

-- between two moments of a run the histories of each task grew
pub grown : (job : Job) (before after : Moment) (t : ℕ) → IsGraph job.graph
    → t < length job.graph.tasks → HasRun job before → HasRun job after
    → ((q : ℕ) → IsBeginning (before.history q) (after.history q))
    → HasGrown job before after t
grown job before after t is there was ran begins = record {
  was = λ q on. (was.phasers q (on_phaser job t q is there on)).legal;
  legal = λ q on. (ran.phasers q (on_phaser job t q is there on)).legal;
  beginning = λ q on. begins q;
}

pub nothing_moved : (job : Job) (m : Moment) (t : ℕ) → OthersMoved job m m t
nothing_moved job m t = record {
  same = record { offset = refl; begun = refl; taken = λ k. refl; put = λ j. refl };
  number = λ q. refl;
  part = λ q n at.
      record { sent = refl; dropped = refl; signalled = refl; received = λ value. refl };
  children = λ c q u there e by none. none;
  parent = λ u e. (refl, omega arith, λ r. r);
}

pub only_one : (n task : ℕ) → is_in task (n ∷ []) ≡ true → n ≡ task
only_one n task e = by (eqb n task) refl e
  where
    by : (b : Bool) → eqb n task ≡ b → (b || false) ≡ true → n ≡ task
    by true here e = eqb-true n task here
    by false here e = absurd (cc)

-- one moment for task a, another for each other task
pub by_task : (P : Moment → ℕ → Type 0) (a t : ℕ) (for_a for_others : Moment)
    → (t ≡ a → P for_a t) → (t ≢ a → P for_others t)
    → P (cond (eqb t a) for_a for_others) t
by_task P a t for_a for_others mine theirs = by (eqb t a) refl
  where
    by : (b : Bool) → eqb t a ≡ b → P (cond b for_a for_others) t
    by true e = mine (eqb-true t a e)
    by false e =
        theirs (λ same. (let here : eqb t a ≡ true = eq-eqb t a same in
        let clash : true ≡ false = sym here ∙ e in cc))
