-- The registration of a child keeps what a run has.
use Rattle.std.proofs.Common.{◌≡◌, ◌≢◌, ℕ, ◌+◌, ◌<◌, Bool, true, false, cond, eqb, [], ◌∷◌, Some, length, refl, sym, ap, subst, ◌∙◌, arith, ◌⊎◌, inl, inr}
use Rattle.std.specs.Prelude.{is_some}
use Rattle.std.proofs.lemmas.Bool.{ne_eqb, eq-eqb}
use Rattle.std.proofs.lemmas.Option.{same_Some}
use Rattle.phase_base.specs.declared.entry.Entry.{Entry}
use Rattle.phase_base.specs.declared.mode.Mode.{Mode}
use Rattle.phase_history.specs.declared.event.Event.TheVariants.{Registered}
use Rattle.phase_history.specs.Histories.{History, IsBeginning, entry_at, signal_phase, wait_phase, greatest_used, start_of}
use Rattle.phase_history.specs.Laws.{HasNoEvents}
use Rattle.phase_history.specs.Legal.{IsLegal}
use Rattle.phase_history.specs.Others.{IsUsed}
use Rattle.phase_base.specs.Lists.{is_in}
use Rattle.phase_history.specs.Sent.{NamesAll, IsSilent}
use Rattle.phase_history.proofs.LawProofs.{above_law}
use Rattle.phase_history.proofs.Refused.{registers_from}
use Rattle.phase_history.proofs.Used.{start_used, start_from, start_of-longer}
use Rattle.graph_base.specs.declared.line.Parent.{Parent}
use Rattle.graph_base.specs.Graphs.{task_at, phaser_at}
use Rattle.graph_base.specs.TaskLines.{IsGraph, IsParent}
use Rattle.stream_lists.specs.Jobs.{Job}
use Rattle.graph_runs.specs.Moments.{Moment, HasRun, PhaserRan, TaskRan, limits_at, value_at, numbers_on}
use Rattle.graph_runs.specs.Moves.{HasGrown, Registers}
use Rattle.graph_runs.proofs.Numbers.{in_numbers, from_numbers}
use Rattle.graph_runs.proofs.Framed.{task_later}
use Rattle.graph_runs.proofs.OwnEvents.{eq_case, history_where}
use Rattle.graph_runs.proofs.OnLines.{on_phaser}
use Rattle.graph_runs.proofs.Whole.{parent_of}
use Rattle.graph_runs.proofs.Registering.{numbers_stay, others_register}
use Rattle.graph_runs.proofs.ChildBegins.{child_begins}

pub register_keeps : (job : Job) (before after : Moment) (t p n c a : ℕ) (mode : Mode) (u : Parent)
    → IsGraph job.graph → t < length job.graph.tasks
    → Registers job before after t p n c a mode u → HasRun job before → HasRun job after
register_keeps job before after t p n c a mode u is there s ran = record {
  phasers = phasers;
  tasks = λ x there_x. tasks x there_x (eq_case x c);
}
  where
    pp : p < length job.graph.phasers
    pp = on_phaser job c p is s.child s.on_line

    h : History
    h = before.history p

    now : History
    now = Registered n a mode ∷ before.history p

    par : IsParent job.graph c (task_at job.graph c) u
    par = parent_of job c u is s.child s.parent

    above : t < c
    above = (let e : u.task ≡ t = s.by in let l : u.task < c = par.above in omega arith)

    legal_now : IsLegal (limits_at job p) (Registered n a mode ∷ before.history p)
    legal_now = ((ran.phasers p pp).legal, s.accepted)

    unused : HasNoEvents (value_at job p) (before.history p) a
    unused = above_law (value_at job p) (limits_at job p) (before.history p) a
        (ran.phasers p pp).legal (registers_from (before.history p) n a mode s.accepted).new_number

    new_number : (b : ℕ) → IsUsed (before.history p) b → b ≢ a
    new_number b used same =
        let st = start_from (start_of (before.history p) b) used in
        let high : greatest_used (before.history p) < a =
        (registers_from (before.history p) n a mode s.accepted).new_number in
        omega (arith, start_used (before.history p) b st.0 st.1)

    by_phaser : (P : History → Type 0) (q : ℕ)
        → (q ≡ p → P (Registered n a mode ∷ before.history q)) → (q ≢ p → P (before.history q))
        → P (after.history q)
    by_phaser P q = history_where before after p (Registered n a mode) P q s.here s.elsewhere

    -- a number is the child's new one, or one that it was
    number_case : (q x : ℕ) → ((q ≡ p) × (x ≡ c)) ⊎ (after.number q x ≡ before.number q x)
    number_case q x = by (eq_case q p) (eq_case x c)
      where
        by : (q ≡ p) ⊎ (q ≢ p) → (x ≡ c) ⊎ (x ≢ c)
            → ((q ≡ p) × (x ≡ c)) ⊎ (after.number q x ≡ before.number q x)
        by (inl e) (inl f) = inl (e, f)
        by (inr e) f = inr (s.other_numbers q x (inl e))
        by (inl e) (inr f) = inr (s.other_numbers q x (inr f))

    stays : (q x b : ℕ) → before.number q x ≡ Some b → after.number q x ≡ Some b
    stays = numbers_stay job before after t p n c a mode u s

    start_now : (q b : ℕ) (start : Entry) → q < length job.graph.phasers
        → start_of (before.history q) b ≡ Some start → start_of (after.history q) b ≡ Some start
    start_now q b start qq e =
        by_phaser (λ g. start_of g b ≡ Some start) q
        (λ same. (start_of-longer (limits_at job q) (before.history q)
        (Registered n a mode ∷ before.history q) b start (subst (λ (x : ℕ). IsLegal (limits_at job
        x) (Registered n a mode ∷ before.history x)) (sym same) legal_now)
        (record { later = Registered n a mode ∷ []; is = refl }) e))
        (λ apart. e)

    phasers : (q : ℕ) → q < length job.graph.phasers → PhaserRan job after q
    phasers q qq = record {
      legal = by_phaser (λ g. IsLegal (limits_at job q) g) q
          (λ same. (subst (λ (x : ℕ). IsLegal (limits_at job x) (Registered n a mode ∷
          before.history x)) (sym same) legal_now)) (λ apart. (ran.phasers q qq).legal);
      names = by_phaser (λ g. NamesAll (phaser_at job.graph q).single g) q
          (λ same. (ran.phasers q qq).names) (λ apart. (ran.phasers q qq).names);
      distinct =
          λ x y b lx ly ex ey. distinct x y b lx ly ex ey (number_case q x) (number_case q y);
      used = λ x b e. used x b e (number_case q x);
      strangers = λ b none. strangers b none;
    }
      where
        old_used : (x b : ℕ) → after.number q x ≡ Some b → after.number q x ≡ before.number q x
            → q ≡ p → IsUsed (before.history p) b
        old_used x b e same at =
            let P : ℕ → Type 0 = λ y. IsUsed (before.history y) b in
            subst P at ((ran.phasers q qq).used x b (sym same ∙ e))

        new_is : (x b : ℕ) → after.number q x ≡ Some b → q ≡ p → x ≡ c → b ≡ a
        new_is x b e at me =
            same_Some b a
            (sym e ∙ ap (λ y. after.number y x) at ∙ ap (λ y. after.number p y) me ∙ s.number)

        distinct : (x y b : ℕ) → x < length job.graph.tasks → y < length job.graph.tasks
            → after.number q x ≡ Some b → after.number q y ≡ Some b
            → ((q ≡ p) × (x ≡ c)) ⊎ (after.number q x ≡ before.number q x)
            → ((q ≡ p) × (y ≡ c)) ⊎ (after.number q y ≡ before.number q y) → x ≡ y
        distinct x y b lx ly ex ey (inl i) (inl j) = i.1 ∙ sym j.1
        distinct x y b lx ly ex ey (inr i) (inr j) =
            (ran.phasers q qq).distinct x y b lx ly (sym i ∙ ex) (sym j ∙ ey)
        distinct x y b lx ly ex ey (inl i) (inr j) =
            absurd (new_number b (old_used y b ey j i.0) (new_is x b ex i.0 i.1))
        distinct x y b lx ly ex ey (inr i) (inl j) =
            absurd (new_number b (old_used x b ex i j.0) (new_is y b ey j.0 j.1))

        used : (x b : ℕ) → after.number q x ≡ Some b
            → ((q ≡ p) × (x ≡ c)) ⊎ (after.number q x ≡ before.number q x)
            → IsUsed (after.history q) b
        used x b e (inr same) =
            let st = start_from (start_of (before.history q) b)
            ((ran.phasers q qq).used x b (sym same ∙ e)) in
            ap is_some (start_now q b st.0 qq st.1)
        used x b e (inl at) =
            let new : b ≡ a = new_is x b e at.0 at.1 in
            let here : eqb a b ≡ true = eq-eqb a b (sym new) in
            by_phaser (λ g. IsUsed g b) q (λ same. rw here refl) (λ apart. absurd (apart at.0))

        strangers : (b : ℕ) → is_in b (numbers_on job after q) ≡ false
            → IsSilent (after.history q) b
        strangers b none =
            let old : is_in b (numbers_on job before q) ≡ false =
            outside b none (is_in b (numbers_on job before q)) refl in
            let silent : IsSilent (before.history q) b = (ran.phasers q qq).strangers b old in
            by_phaser (λ g. IsSilent g b) q
            (λ same. (let other : eqb a b ≡ false = ne_eqb a b (λ e. not_new b none same (sym e)) in
            record {
              nothing = silent.nothing;
              from_0 = λ start found.
                  silent.from_0 start
                  (sym (ap (λ (t : Bool).
                  cond t (Some
                  (entry_at mode (signal_phase (before.history q) n)
                  (wait_phase (before.history q) n)))
                  (start_of (before.history q) b)) other) ∙ found);
            }))
            (λ apart. silent)
          where
            outside : (b : ℕ) → is_in b (numbers_on job after q) ≡ false → (v : Bool)
                → is_in b (numbers_on job before q) ≡ v → is_in b (numbers_on job before q) ≡ false
            outside b none false e = e
            outside b none true e =
                let r = from_numbers (before.number q) 0 (length job.graph.tasks) b e in
                let high : r.0 < 0 + length job.graph.tasks = r.2 in
                let inside : is_in b (numbers_on job after q) ≡ true =
                in_numbers (after.number q) 0 (length job.graph.tasks) r.0 b (omega arith)
                (omega arith) (stays q r.0 b r.3) in
                absurd (let f : true ≡ false = sym inside ∙ none in cc)

            not_new : (b : ℕ) → is_in b (numbers_on job after q) ≡ false → q ≡ p → b ≢ a
            not_new b none at new =
                let inside : is_in b (numbers_on job after q) ≡ true =
                in_numbers (after.number q) 0 (length job.graph.tasks) c b (omega arith)
                (let l : c < length job.graph.tasks = s.child in omega arith)
                (ap (λ y. after.number y c) at ∙ s.number ∙ ap (λ y. Some y) (sym new)) in
                let f : true ≡ false = sym inside ∙ none in cc

    grown : (x : ℕ) → x < length job.graph.tasks → HasGrown job before after x
    grown x there_x = record {
      was = λ q on. (ran.phasers q (on_phaser job x q is there_x on)).legal;
      legal = λ q on. (phasers q (on_phaser job x q is there_x on)).legal;
      beginning =
          λ q on. by_phaser (λ g. IsBeginning (before.history q) g) q
          (λ same. record { later = Registered n a mode ∷ []; is = refl })
          (λ apart. record { later = []; is = refl });
    }

    tasks : (x : ℕ) → x < length job.graph.tasks → (x ≡ c) ⊎ (x ≢ c) → TaskRan job after x
    tasks x there_x (inl same) =
        subst (λ (y : ℕ). TaskRan job after y) (sym same)
        (child_begins job before after t p n c a mode u is there (ran.phasers p pp).legal
        (grown c s.child) s (ran.tasks t there) (ran.tasks c s.child))
    tasks x there_x (inr other) =
        task_later job before after x is there_x (grown x there_x)
        (others_register job before after t p n c a mode u s x other) (ran.tasks x there_x)
