-- The moment of the whole run has run.
use Rattle.std.proofs.Common.{◌≡◌, ℕ, ◌<◌, ◌≤◌, false, [], ◌∷◌, Option, Some, None, length, slice_get, refl, sym, ap, ◌∙◌, arith}
use Rattle.std.proofs.lemmas.Option.{same_Some}
use Rattle.phase_history.specs.Others.{OthersCame}
use Rattle.phase_history.proofs.Beginnings.{IsBeginning-refl}
use Rattle.phase_history.proofs.OthersEvents.{IsBeginning-others}
use Rattle.graph_base.specs.Graphs.{task_at}
use Rattle.graph_base.specs.TaskLines.{IsGraph}
use Rattle.graph_base.specs.declared.line.Kind.TheVariants.{Sink}
use Rattle.graph_base.specs.declared.line.Parent.{Parent}
use Rattle.stream_lists.specs.Jobs.{Job}
use Rattle.graph_runs.proofs.Whole.{parent_of}
use Rattle.graph_runs.specs.Moments.{Moment, HasRun, PhaserRan, TaskRan, OnLine, IsRegistered, IsChild}
use Rattle.graph_runs.proofs.OnLines.{on_phaser}
use Rattle.graph_runs.specs.Moves.{SameTask, HasGrown, PartStays, OthersMoved}
use Rattle.graph_runs.proofs.Framed.{part_came}
use Rattle.graph_runs.proofs.Joins.{joined_ran}
use Rattle.graph_runs.specs.Beginnings.{opening}
use Rattle.graph_runs.specs.Reached.{HasBegun}
use Rattle.graph_runs.proofs.AtOpening.{opening_has_begun}
use Rattle.graph_runs.specs.TaskEnds.{TaskEnd}
use Rattle.graph_runs.specs.RunEnds.{Ends, HasCome, lines_in}
use Rattle.graph_runs.specs.Stops.{IsStop}
use Rattle.graph_runs.proofs.Absent.{absent_ran}
use Rattle.graph_runs.proofs.Owns.{found_on, HasOwn, has_number}
use Rattle.graph_runs.proofs.Joined.{Status, absent, came, number_by, offset_by, begun_by, taken_by, put_by, status, whole, has_whole, IsNumbered, number_given, begun_there, registered_there}
use Rattle.graph_runs.proofs.OnPhasers.{part_of, phaser_ran}

module _ (job : Job) (ends : Ends) (is : IsGraph job.graph) (r : IsStop job ends) where
  abbrev m : Moment
  m = whole job ends is r

  phasers : (p : ℕ) → p < length job.graph.phasers → PhaserRan job m p
  phasers p pp =
      let w = has_whole job ends is r p pp in phaser_ran job ends is r p w.0 w.1

  begins : HasBegun job (opening job)
  begins = opening_has_begun job is

  -- what a task's own moment has of a phaser is its part of the whole
  pub part : (t p n : ℕ) → (g : IsNumbered job ends is r t p n)
      → PartStays n (g.m.history p) (m.history p)
  part t p n g =
      let pp : p < length job.graph.phasers =
      on_phaser job t p is g.there (g.own.part.ran.lines p n g.numbered) in
      let w = has_whole job ends is r p pp in
      part_of job ends is r p w.0 w.1 t n g

  -- ---- one task

  -- a task's own moment, and of one that never came the whole
  abbrev own_by : {t : ℕ} → Status job ends t → Moment
  own_by (absent never) = m
  own_by (came end has own_m own there) = own_m

  -- a task that came
  module _ (t : ℕ) (end : TaskEnd) (has : HasCome ends t end) (o : Moment) (own : HasOwn job o end t)
      (there : t < length job.graph.tasks)
      (number_is : (p : ℕ) → m.number p t ≡ o.number p t)
      (offset_is : m.offset t ≡ o.offset t) (begun_is : m.begun t ≡ o.begun t)
      (taken_is : (k : ℕ) → m.taken t k ≡ o.taken t k) (put_is : (j : ℕ) → m.put t j ≡ o.put t j) where
    -- others alone made what it has seen longer
    came_others : (p : ℕ) → (on : OnLine (task_at job.graph t) p) → (n : ℕ)
        → o.number p t ≡ Some n → OthersCame (n ∷ []) (o.history p) (m.history p)
    came_others p on n at =
        let has_n = has_number job o end t p own (found_on job t p is there on) in
        let same : has_n.n ≡ n = same_Some has_n.n n (sym has_n.numbered ∙ at) in
        let w = has_whole job ends is r p (on_phaser job t p is there on) in
        w.1.tasks_came t has_n.i n (o.history p) (record {
          end = end;
          came = has;
          few = has_n.few;
          phaser = has_n.phaser;
          number = has_n.number ∙ ap (λ x. Some x) same;
          saw = has_n.saw;
        })

    came_grown : HasGrown job o m t
    came_grown = record {
      was = own.part.legal;
      legal = λ p on. (phasers p (on_phaser job t p is there on)).legal;
      beginning = λ p on.
          (let has_n = has_number job o end t p own (found_on job t p is there on) in
          IsBeginning-others (has_n.n ∷ []) (o.history p) (m.history p)
          (came_others p on has_n.n has_n.numbered));
    }

    came_same : SameTask o m t
    came_same = record {
      offset = offset_is;
      begun = begun_is;
      taken = taken_is;
      put = put_is;
    }

    came_part : (p n : ℕ) → o.number p t ≡ Some n → PartStays n (o.history p) (m.history p)
    came_part p n at =
        part_came n (o.history p) (m.history p) (came_others p (own.part.ran.lines p n at) n at)

    came_children : (c p : ℕ) (u : Parent) → c < length job.graph.tasks
        → (task_at job.graph c).parent ≡ Some u → u.task ≡ t
        → m.number p c ≡ None → o.number p c ≡ None
    came_children c p u there_c e by none = of (o.number p c) refl
      where
        of : (x : Option ℕ) → o.number p c ≡ x → o.number p c ≡ None
        of None f = f
        of (Some a) f =
            let given : m.number p c ≡ Some a =
            number_given job ends is r t p a end has o own c
            (record { there = there_c; parent = u; has = e; by = by }) f in
            absurd (let no : None ≡ Some a = sym none ∙ given in cc)

    -- a parent that came began where the opening says
    offset_of_parent : (u : Parent) (other : TaskEnd) → HasCome ends u.task other
        → (task_at job.graph u.task).joins_now ≡ false
        → m.offset u.task ≡ (opening job).offset u.task
    offset_of_parent u other has_u stays = by (status job ends is r u.task) refl
      where
        by : (s : Status job ends u.task) → status job ends is r u.task ≡ s
            → m.offset u.task ≡ (opening job).offset u.task
        by (absent never) e = absurd (never other has_u)
        by (came end2 has2 o2 own2 here2) e = ap (λ x. offset_by x) e ∙ own2.own.offset stays

    came_parent : (u : Parent) → (task_at job.graph t).parent ≡ Some u
        → (m.offset u.task ≡ o.offset u.task) × (o.begun u.task ≤ m.begun u.task)
        × (IsRegistered o u.task → IsRegistered m u.task)
    came_parent u e =
        let other = r.agree.parents t u end has e in
        let begun : m.begun u.task ≡ other.0.begun =
        begun_there job ends is r u.task other.0 other.1 in
        let stays : (task_at job.graph u.task).joins_now ≡ false =
        (parent_of job t u is there e).stays in (
          offset_of_parent u other.0 other.1 stays ∙ sym (own.own.above u e),
          omega (arith, own.own.parent u e, other.2),
          λ was. registered_there job ends is r u.task other.0 other.1,
        )

    came_moved : OthersMoved job o m t
    came_moved = record {
      same = came_same;
      number = number_is;
      part = came_part;
      children = came_children;
      parent = came_parent;
    }

  -- a task that never came
  never_ran : (t : ℕ) → t < length job.graph.tasks
      → ((end : TaskEnd) → HasCome ends t end → ⊥) → (s : Status job ends t) → status job ends is r t ≡ s
      → ((p : ℕ) → number_by s p ≡ None) → offset_by s ≡ (opening job).offset t → begun_by s ≡ 0
      → ((k : ℕ) → taken_by s k ≡ []) → ((j : ℕ) → put_by s j ≡ []) → TaskRan job m t
  never_ran t there never s e nowhere offset begun taken put =
      absent_ran job m t is there begins (record {
        child = child (task_at job.graph t).parent refl;
        nowhere = λ p. ap (λ x. number_by x p) e ∙ nowhere p;
        offset = ap (λ x. offset_by x) e ∙ offset;
        begun = ap (λ x. begun_by x) e ∙ begun;
        taken = λ k. ap (λ x. taken_by x k) e ∙ taken k;
        put = λ j. ap (λ x. put_by x j) e ∙ put j;
      })
    where
      child : (u : Option Parent) → (task_at job.graph t).parent ≡ u
          → IsChild (task_at job.graph t).parent
      child None f = let root = r.agree.roots t there f in absurd (never root.0 root.1)
      child (Some u) f = rw f tt

  ran_by : (t : ℕ) → t < length job.graph.tasks → (s : Status job ends t) → status job ends is r t ≡ s
      → TaskRan job (own_by s) t
  ran_by t there (absent never) e =
      never_ran t there never (absent never) e (λ p. refl) refl refl (λ k. refl)
      (λ j. refl)
  ran_by t there (came end has o own here) e = own.part.ran

  grown_by : (t : ℕ) → t < length job.graph.tasks → (s : Status job ends t) → status job ends is r t ≡ s
      → HasGrown job (own_by s) m t
  grown_by t there (absent never) e = record {
    was = λ p on. (phasers p (on_phaser job t p is there on)).legal;
    legal = λ p on. (phasers p (on_phaser job t p is there on)).legal;
    beginning = λ p on. IsBeginning-refl (m.history p);
  }
  grown_by t there (came end has o own here) e =
      came_grown t end has o own here (λ p. ap (λ x. number_by x p) e)
      (ap (λ x. offset_by x) e) (ap (λ x. begun_by x) e)
      (λ k. ap (λ x. taken_by x k) e) (λ j. ap (λ x. put_by x j) e)

  moved_by : (t : ℕ) → t < length job.graph.tasks → (s : Status job ends t) → status job ends is r t ≡ s
      → OthersMoved job (own_by s) m t
  moved_by t there (absent never) e = record {
    same = record { offset = refl; begun = refl; taken = λ k. refl; put = λ j. refl };
    number = λ p. refl;
    part = λ p n at. record { sent = refl; dropped = refl; signalled = refl; received = λ value. refl };
    children = λ c p u there_c f by none. none;
    parent = λ u f. (refl, omega arith, λ was. was);
  }
  moved_by t there (came end has o own here) e =
      came_moved t end has o own here (λ p. ap (λ x. number_by x p) e)
      (ap (λ x. offset_by x) e) (ap (λ x. begun_by x) e)
      (λ k. ap (λ x. taken_by x k) e) (λ j. ap (λ x. put_by x j) e)

  -- ---- the whole

  pub has_run : HasRun job m
  has_run =
      joined_ran job m (λ t. own_by (status job ends is r t)) is phasers
      (λ t there. ran_by t there (status job ends is r t) refl)
      (λ t there. grown_by t there (status job ends is r t) refl)
      (λ t there. moved_by t there (status job ends is r t) refl)

  pub sink_lines : (t : ℕ) → t < length job.graph.tasks → (task_at job.graph t).kind ≡ Sink
      → m.taken t 0 ≡ lines_in (slice_get ends t)
  sink_lines t there sink = by (status job ends is r t) refl
    where
      by : (s : Status job ends t) → status job ends is r t ≡ s
          → m.taken t 0 ≡ lines_in (slice_get ends t)
      by (came end has o own here) e =
          ap (λ x. taken_by x 0) e ∙ own.lines sink ∙ ap lines_in (sym has)
      by (absent never) e = ap (λ x. taken_by x 0) e ∙ sym (none (slice_get ends t) refl)
        where
          none : (o : Option (Option TaskEnd)) → slice_get ends t ≡ o
              → lines_in (slice_get ends t) ≡ []
          none None f = ap lines_in f
          none (Some None) f = ap lines_in f
          none (Some (Some end)) f = absurd (never end f)

-- a sink has an input
pub has_input : (job : Job) (t : ℕ) → IsGraph job.graph → t < length job.graph.tasks
    → (task_at job.graph t).kind ≡ Sink → 0 < length (task_at job.graph t).inputs
has_input job t is there sink =
    let both : (length (task_at job.graph t).inputs ≡ 1)
    × (length (task_at job.graph t).outputs ≡ 0) = rw sink at (is.tasks t there).ends in
    let one : length (task_at job.graph t).inputs ≡ 1 = both.0 in omega arith
