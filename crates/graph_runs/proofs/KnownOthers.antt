-- What a task's own moment says of other tasks stays by its calls.
use Rattle.std.proofs.Common.{◌≡◌, ◌≢◌, ℕ, ◌<◌, true, false, List, [], Option, Some, None, length, refl, sym, ap, ◌∙◌, arith, ◌⊎◌, inl, inr}
use Rattle.phase_history.specs.Histories.{History}
use Rattle.graph_base.specs.declared.line.Parent.{Parent}
use Rattle.graph_base.specs.Graphs.{task_at}
use Rattle.graph_base.specs.TaskLines.{IsGraph}
use Rattle.stream_lists.specs.Jobs.{Job}
use Rattle.graph_runs.specs.Moments.{Moment, OnLine}
use Rattle.graph_runs.proofs.Whole.{parent_of}
use Rattle.graph_runs.proofs.OwnEvents.{eq_case}
use Rattle.graph_runs.specs.Nexts.{registrations_at}
use Rattle.graph_runs.specs.TaskPlaces.{registration_at}
use Rattle.graph_runs.specs.Parts.{HasMovedOn}
use Rattle.graph_runs.specs.Places.{IsFirstMoment, HasNewChild, HasAddedChild, HasAddedNow, KnowsOthers}
use Rattle.graph_runs.proofs.TellsNext.{registration_on}

-- a task's parent stands above it
below : (job : Job) (c : ℕ) (u : Parent) → IsGraph job.graph → c < length job.graph.tasks
    → (task_at job.graph c).parent ≡ Some u → u.task < c
below job c u is there parent = (parent_of job c u is there parent).above

-- two parents of one task are one
same_parent : (job : Job) (c : ℕ) (u w : Parent) → (task_at job.graph c).parent ≡ Some u
    → (task_at job.graph c).parent ≡ Some w → u.task ≡ w.task
same_parent job c u w e f = by (sym e ∙ f)
  where
    by : Some u ≡ Some w → u.task ≡ w.task
    by same = let is : u ≡ w = cc in ap (λ (x : Parent). x.task) is

pub known_first : (job : Job) (m : Moment) (t : ℕ) (numbers : List ℕ) (seen : ℕ → History)
    → IsGraph job.graph → IsFirstMoment job m t numbers seen → KnowsOthers job m t
known_first job m t numbers seen is first = record {
  offset = λ u stays. first.offset u;
  lines = λ p c n u there parent of_t at.
      (let less : u.task < c = below job c u is there parent in
      let none : m.number p c ≡ None = first.others p c (λ same. omega arith) in
      absurd (let wrong : Some n ≡ None = sym at ∙ none in cc));
  unregistered = λ p d u there parent behind.
      (first.others p d (λ same. omega (arith, below job d u is there parent)));
}

-- numbers and offsets are as they were
known_same : (job : Job) (m after : Moment) (t : ℕ)
    → ((q u : ℕ) → after.number q u ≡ m.number q u)
    → ((u : ℕ) → after.offset u ≡ m.offset u) → KnowsOthers job m t → KnowsOthers job after t
known_same job m after t numbers offset known = record {
  offset = λ u stays. offset u ∙ known.offset u stays;
  lines = λ p c n u there parent of_t at.
      known.lines p c n u there parent of_t (sym (numbers p c) ∙ at);
  unregistered = λ p d u there parent behind.
      numbers p d ∙ known.unregistered p d u there parent behind;
}

pub known_moved : (job : Job) (m after : Moment) (t p : ℕ) (now : History)
    → HasMovedOn job m after t p now → KnowsOthers job m t → KnowsOthers job after t
known_moved job m after t p now moved known =
    known_same job m after t moved.numbers moved.offset known

pub known_begins : (job : Job) (m after : Moment) (t c : ℕ) → HasNewChild job m after t c []
    → KnowsOthers job m t → KnowsOthers job after t
known_begins job m after t c new known =
    known_same job m after t new.numbers_stay new.offset known

-- task c, a child of task t, has got a number on a phaser of its line, and where it began may have
-- changed
known_added : (job : Job) (m after : Moment) (t c p : ℕ) (u : Parent)
    → (task_at job.graph c).parent ≡ Some u → u.task ≡ t → OnLine (task_at job.graph c) p
    → ((q d : ℕ) → (q ≢ p) ⊎ (d ≢ c) → after.number q d ≡ m.number q d)
    → ((d : ℕ) → (task_at job.graph d).joins_now ≡ false → after.offset d ≡ m.offset d)
    → KnowsOthers job m t → KnowsOthers job after t
known_added job m after t c p u parent of_t on numbers offset known = record {
  offset = λ d stays. offset d stays ∙ known.offset d stays;
  lines = λ q d n w there e by at. lines q d n w there e by at (eq_case q p) (eq_case d c);
  unregistered = λ q d w there e behind.
      numbers q d (inr (λ same. apart d w e behind same))
      ∙ known.unregistered q d w there e behind;
}
  where
    apart : (d : ℕ) (w : Parent) → (task_at job.graph d).parent ≡ Some w → t < w.task → d ≡ c → ⊥
    apart d w e behind same =
        let one : w.task ≡ u.task =
        same_parent job c w u (ap (λ x. (task_at job.graph x).parent) (sym same) ∙ e) parent in
        omega arith

    lines : (q d n : ℕ) (w : Parent) → d < length job.graph.tasks
        → (task_at job.graph d).parent ≡ Some w → w.task ≡ t → after.number q d ≡ Some n
        → (q ≡ p) ⊎ (q ≢ p) → (d ≡ c) ⊎ (d ≢ c) → OnLine (task_at job.graph d) q
    lines q d n w there e by at (inl here) (inl same) =
        rw here (rw same on)
    lines q d n w there e by at (inl here) (inr other) =
        known.lines q d n w there e by (sym (numbers q d (inr other)) ∙ at)
    lines q d n w there e by at (inr other) case =
        known.lines q d n w there e by (sym (numbers q d (inl other)) ∙ at)

pub known_registers : (job : Job) (m after : Moment) (t c p a : ℕ) (u : Parent)
    (numbers : List ℕ) (now : History) → (task_at job.graph c).parent ≡ Some u → u.task ≡ t
    → OnLine (task_at job.graph c) p → HasAddedChild job m after t c p a numbers now
    → KnowsOthers job m t → KnowsOthers job after t
known_registers job m after t c p a u numbers now parent of_t on added known =
    known_added job m after t c p u parent of_t on added.other_numbers
    (λ d stays. added.offset d) known

pub known_registers_now : (job : Job) (m after : Moment) (t c p a start : ℕ) (u : Parent)
    (now : History) → (task_at job.graph c).parent ≡ Some u → u.task ≡ t
    → (task_at job.graph c).joins_now ≡ true → OnLine (task_at job.graph c) p
    → HasAddedNow job m after t c p a start now → KnowsOthers job m t → KnowsOthers job after t
known_registers_now job m after t c p a start u now parent of_t joins on added known =
    known_added job m after t c p u parent of_t on added.other_numbers
    (λ d stays. added.offset d (apart d stays)) known
  where
    apart : (d : ℕ) → (task_at job.graph d).joins_now ≡ false → d ≢ c
    apart d stays same =
        let no : true ≡ false =
        sym joins ∙ ap (λ x. (task_at job.graph x).joins_now) (sym same) ∙ stays in cc

pub known_child : (job : Job) (m : Moment) (t c : ℕ) (u : Parent) → IsGraph job.graph
    → c < length job.graph.tasks → (task_at job.graph c).parent ≡ Some u → u.task ≡ t
    → KnowsOthers job m t → KnowsOthers job m c
known_child job m t c u is there parent of_t known = record {
  offset = known.offset;
  lines = λ p d n w there_d e by at.
      (let low : u.task < c = less in
      let none : m.number p d ≡ None = known.unregistered p d w there_d e (omega arith) in
      absurd (let wrong : Some n ≡ None = sym at ∙ none in cc));
  unregistered = λ p d w there_d e behind.
      (let low : u.task < c = less in known.unregistered p d w there_d e (omega arith));
}
  where
    less : u.task < c
    less = below job c u is there parent

pub known_nowhere : (job : Job) (m : Moment) (t c : ℕ) (u : Parent) → IsGraph job.graph
    → c < length job.graph.tasks → (task_at job.graph c).parent ≡ Some u → u.task ≡ t
    → ((i : ℕ) → i < length (registrations_at job c)
    → m.number (registration_at job c i).phaser c ≡ None)
    → KnowsOthers job m t → (p : ℕ) → m.number p c ≡ None
known_nowhere job m t c u is there parent of_t none known p = by (m.number p c) refl
  where
    by : (o : Option ℕ) → m.number p c ≡ o → m.number p c ≡ None
    by None at = at
    by (Some n) at =
        let on = known.lines p c n u there parent of_t at in
        let r = registration_on job c p is there on in
        absurd (let wrong : Some n ≡ None =
        sym at ∙ ap (λ q. m.number q c) (sym r.2) ∙ none r.0 r.1 in cc)
