-- The opening of a run has what turns keep.
use Rattle.std.proofs.Common.{◌≡◌, ℕ, zero, suc, ◌+◌, ◌<◌, ◌≤◌, ◌≢◌, Bool, true, false, cond, eqb, List, [], ◌∷◌, ◌++◌, Option, Some, None, is_some, IsSome, length, get_or, refl, sym, ap, subst, ◌∙◌, arith, ◌⊎◌, inl, inr}
use Rattle.std.specs.Prelude.{option_map}
use Rattle.std.specs.List.{find}
use Rattle.std.proofs.lemmas.Bool.{cases_lt, eqb-true, eq-eqb, ne_eqb}
use Rattle.std.proofs.lemmas.Option.{same_Some}
use Rattle.std.proofs.lemmas.List.{length-map, get_or-map}
use Rattle.phase_base.specs.Limits.{AreLimits}
use Rattle.phase_base.specs.Modes.{mode_signals, mode_waits}
use Rattle.phase_base.specs.declared.entry.Entry.{Entry}
use Rattle.phase_base.specs.declared.mode.Mode.{Mode}
use Rattle.phase_history.specs.declared.event.Event.TheVariants.{Registered, Dropped}
use Rattle.phase_history.specs.Histories.{History, IsBeginning, entry_at, founder, start_of, greatest_used, has_dropped}
use Rattle.phase_history.specs.Others.{IsUsed}
use Rattle.phase_history.proofs.Alive.{alive_law}
use Rattle.phase_history.proofs.Beginnings.{IsBeginning-trans}
use Rattle.phase_history.proofs.Used.{start_of-longer, start_used}
use Rattle.graph_base.specs.declared.line.Parent.{Parent}
use Rattle.graph_base.specs.declared.registration.Registration.{Registration}
use Rattle.graph_base.specs.Graphs.{Task, task_at, no_task}
use Rattle.graph_base.specs.Registrations.{registrations_of, no_registration}
use Rattle.graph_base.specs.TaskLines.{IsGraph}
use Rattle.graph_base.proofs.Registered.{registrations-phasers}
use Rattle.stream_lists.specs.Jobs.{Job, index_in}
use Rattle.stream_lists.specs.Spans.{signalled_by}
use Rattle.stream_lists.proofs.Growing.{grown-whole}
use Rattle.stream_lists.proofs.SpansAbove.{parent-is}
use Rattle.graph_runs.specs.Moments.{limits_at, input_at, OnLine}
use Rattle.graph_runs.proofs.OnLines.{on_phaser}
use Rattle.graph_runs.specs.Openings.{PhaserOpened, TaskOpened}
use Rattle.graph_runs.specs.Nexts.{registrations_at}
use Rattle.graph_runs.specs.Beginnings.{mode_on, root_mode, root_number, number_after_founder, with_root, roots_joined, offset_below, opening_offsets, opening}
use Rattle.graph_runs.specs.Reached.{HasModes, HasTaskMembers, IsOfTask, HasBegun}
use Rattle.graph_runs.proofs.Beginning.{Rooted, rooted, roots-later, opening_legal, only_roots, IsRoot, is_root}
use Rattle.graph_runs.proofs.PlacesLemmas.{find-none, find-some, on_ends}
use Rattle.graph_runs.proofs.Reaching.{one_registration, get_or-any}
use Rattle.graph_runs.proofs.TurnRegistering.{is_for}

-- ---- phasers

pub are_limits : (job : Job) (p : ℕ) → IsGraph job.graph → p < length job.graph.phasers
    → AreLimits (limits_at job p)
are_limits job p is pp =
    let bound = (is.phasers p pp).bound in
    record {
      bound_least = bound.0;
      bound_most = bound.1;
      phases_least = omega arith;
      phases_most = omega arith;
    }

-- the founder has registered the roots among the first n tasks
pub rooted_at : (job : Job) (p n : ℕ) → IsGraph job.graph → p < length job.graph.phasers
    → n ≤ length job.graph.tasks → Rooted job p n
rooted_at job p n is pp le =
    rooted job p n (are_limits job p is pp) (omega (arith, is.few_tasks))

-- a task that is not there is registered nowhere
no_root : (job : Job) (p t : ℕ) → length job.graph.tasks ≤ t → root_mode job t p ≡ None
no_root job p t beyond =
    let none : task_at job.graph t ≡ no_task = get_or-beyond job.graph.tasks t no_task beyond in
    let root : (task_at job.graph t).parent ≡ None = ap (λ (task : Task). task.parent) none in
    let on : root_mode job t p ≡ mode_on job t p = rw root refl in
    on ∙ ap (λ (task : Task).
    option_map (λ r. r.mode) (find (λ r. eqb r.phaser p) (registrations_of job.graph task))) none
  where
    get_or-beyond : {X : Type 0} (xs : List X) (i : ℕ) (d : X) → length xs ≤ i
        → get_or xs i d ≡ d
    get_or-beyond [] i d le = refl
    get_or-beyond (x ∷ xs) zero d le = absurd (omega arith)
    get_or-beyond (x ∷ xs) (suc i) d le = get_or-beyond xs i d (omega arith)

-- who has a number there is a task, and a root
record HasNumber (job : Job) (p t n : ℕ) : Type 0 where
  there : t < length job.graph.tasks
  root : IsRoot job p t n
  begins : start_of ((opening job).history p) n ≡ Some (entry_at root.mode 0 0)
  within : (u : ℕ) → t < u → u ≤ length job.graph.tasks
      → n ≤ greatest_used (roots_joined job p u)

has_number : (job : Job) (p t n : ℕ) → IsGraph job.graph → p < length job.graph.phasers
    → root_number job p t ≡ Some n → HasNumber job p t n
has_number job p t n is pp e = by (cases_lt t (length job.graph.tasks))
  where
    by : (t < length job.graph.tasks) ⊎ (length job.graph.tasks ≤ t) → HasNumber job p t n
    by (inr beyond) =
        let none : root_number job p t ≡ None =
        ap (number_after_founder (roots_joined job p t)) (no_root job p t beyond) in
        absurd (let no = sym none ∙ e in cc)
    by (inl there) =
        let root = is_root job p t n (rooted_at job p t is pp (omega arith)) e in
        let whole = rooted_at job p (length job.graph.tasks) is pp (omega arith) in
        let leaves : IsBeginning (roots_joined job p (length job.graph.tasks))
        ((opening job).history p) = record { later = Dropped 0 ∷ []; is = refl } in
        record {
          there = there;
          root = root;
          begins = start_of-longer (limits_at job p) (roots_joined job p (suc t))
              ((opening job).history p) n (entry_at root.mode 0 0) (opening_legal job p whole)
              (IsBeginning-trans (roots_joined job p (suc t))
              (roots_joined job p (length job.graph.tasks)) ((opening job).history p)
              (roots-later job p (suc t) (length job.graph.tasks) (omega arith)) leaves)
              root.begins;
          within = λ u less few.
              start_used (roots_joined job p u) n (entry_at root.mode 0 0)
              (start_of-longer (limits_at job p) (roots_joined job p (suc t))
              (roots_joined job p u) n (entry_at root.mode 0 0)
              (rooted_at job p u is pp few).legal
              (roots-later job p (suc t) u (omega arith)) root.begins);
        }

-- two tasks have two numbers
apart : (job : Job) (p t u n : ℕ) → IsGraph job.graph → p < length job.graph.phasers
    → t < u → root_number job p t ≡ Some n → root_number job p u ≡ Some n → ⊥
apart job p t u n is pp less first second =
    let a = has_number job p t n is pp first in
    let b = has_number job p u n is pp second in
    let low = a.within u less (omega (arith, b.there)) in
    omega (arith, b.root.is)

pub phaser_opened : (job : Job) (p : ℕ) → IsGraph job.graph → p < length job.graph.phasers
    → PhaserOpened job (opening job) p
phaser_opened job p is pp =
    let whole = rooted_at job p (length job.graph.tasks) is pp (omega arith) in
    record {
      legal = opening_legal job p whole;
      founder = 0;
      opening = (refl, whole.opens);
      distinct = λ t u n there less first second. same t u n first second;
      used = λ t n e. ap is_some (has_number job p t n is pp e).begins;
      apart = λ t n e.
          (λ zero. (omega (arith, (has_number job p t n is pp e).root.is)));
    }
  where
    same : (t u n : ℕ) → root_number job p t ≡ Some n → root_number job p u ≡ Some n → t ≡ u
    same t u n first second = by (cases_lt t u) (cases_lt u t)
      where
        by : (t < u) ⊎ (u ≤ t) → (u < t) ⊎ (t ≤ u) → t ≡ u
        by (inl less) other = absurd (apart job p t u n is pp less first second)
        by (inr le) (inl less) = absurd (apart job p u t n is pp less second first)
        by (inr le) (inr ge) = omega arith

-- ---- tasks

-- the registration by which a task has its mode on a phaser
record HasRegistration (job : Job) (t p : ℕ) (mode : Mode) : Type 0 where
  i : ℕ
  few : i < length (registrations_at job t)
  here : (get_or (registrations_at job t) i no_registration).phaser ≡ p
  has_mode : (get_or (registrations_at job t) i no_registration).mode ≡ mode
  rooted : (task_at job.graph t).parent ≡ None

has_registration : (job : Job) (t p : ℕ) (mode : Mode) → root_mode job t p ≡ Some mode
    → HasRegistration job t p mode
has_registration job t p mode e = by (task_at job.graph t).parent refl
  where
    found : (o : Option Registration)
        → find (λ r. eqb r.phaser p) (registrations_at job t) ≡ o
        → option_map (λ r. r.mode) o ≡ Some mode
        → (task_at job.graph t).parent ≡ None → HasRegistration job t p mode
    found None f g root = absurd (cc)
    found (Some r) f g root =
        let at = find-some (λ s. eqb s.phaser p) (registrations_at job t) r no_registration f in
        record {
          i = at.1.0;
          few = at.1.1;
          here = ap (λ s. s.phaser) at.1.2 ∙ eqb-true r.phaser p at.0;
          has_mode = ap (λ s. s.mode) at.1.2 ∙ same_Some r.mode mode g;
          rooted = root;
        }

    by : (o : Option Parent) → (task_at job.graph t).parent ≡ o → HasRegistration job t p mode
    by None f =
        let is : root_mode job t p ≡ mode_on job t p = rw f refl in
        found (find (λ r. eqb r.phaser p) (registrations_at job t)) refl (sym is ∙ e) f
    by (Some u) f =
        let none : root_mode job t p ≡ None = rw f refl in
        absurd (let no = sym none ∙ e in cc)

-- a root has a number on each phaser of its line
present : (job : Job) (t p : ℕ) → IsGraph job.graph → t < length job.graph.tasks
    → (task_at job.graph t).parent ≡ None → OnLine (task_at job.graph t) p
    → IsSome (root_number job p t)
present job t p is there root on =
    by (find (λ r. eqb r.phaser p) (registrations_at job t)) refl
  where
    by : (o : Option Registration) → find (λ r. eqb r.phaser p) (registrations_at job t) ≡ o
        → IsSome (root_number job p t)
    by (Some r) f =
        let mode : root_mode job t p ≡ Some r.mode =
        (rw root refl) ∙ ap (option_map (λ s. s.mode)) f in
        ap (λ o. is_some (number_after_founder (roots_joined job p t) o)) mode
    by None f =
        let at = on_ends job.graph t (task_at job.graph t) p (is.tasks t there) on in
        let rs = registrations_at job t in
        let phasers = registrations-phasers job.graph t (task_at job.graph t) (is.tasks t there) in
        let long : length rs
        ≡ length ((task_at job.graph t).inputs ++ (task_at job.graph t).outputs) =
        sym (length-map rs (λ r. r.phaser)) ∙ ap length phasers in
        let lt : at.0 < length rs = omega arith in
        let here : (get_or rs at.0 no_registration).phaser ≡ p =
        sym (get_or-map (λ r. r.phaser) rs at.0 no_registration 0 lt)
        ∙ ap (λ ps. get_or ps at.0 0) phasers ∙ at.2 in
        let yes = eq-eqb (get_or rs at.0 no_registration).phaser p here in
        let no = find-none (λ r. eqb r.phaser p) rs at.0 no_registration f lt in
        absurd (let both = sym yes ∙ no in cc)

-- ---- offsets

offset_is : (job : Job) (t : ℕ) → IsGraph job.graph → t < length job.graph.tasks
    → (opening job).offset t ≡ offset_below (opening_offsets job) (task_at job.graph t).parent
offset_is job t is there =
    grown-whole (λ above u. offset_below above (task_at job.graph u).parent)
    (length job.graph.tasks) t 0 there (λ xs ys same. looks xs ys same)
  where
    looks : (xs ys : List ℕ) → ((q : ℕ) → q < t → get_or xs q 0 ≡ get_or ys q 0)
        → offset_below xs (task_at job.graph t).parent
        ≡ offset_below ys (task_at job.graph t).parent
    looks xs ys same = by (task_at job.graph t).parent refl
      where
        by : (o : Option Parent) → (task_at job.graph t).parent ≡ o
            → offset_below xs o ≡ offset_below ys o
        by None f = refl
        by (Some u) f =
            ap (λ n. n + u.at)
            (same u.task
            (parent-is job.graph t (task_at job.graph t) u (is.tasks t there) f).above)

-- ---- one task

task_opened : (job : Job) (t : ℕ) → IsGraph job.graph → t < length job.graph.tasks
    → TaskOpened job (opening job) t
task_opened job t is there = record {
  rooted = λ p n e. (of_number p n e).rooted;
  lines = λ p n e.
      (let r = of_number p n e in
      subst (OnLine (task_at job.graph t)) r.here (is_for job t r.i is there r.few).on_line);
  present = λ p root on. present job t p is there root on;
  signals = λ p n j start e place begun.
      (let pp = on_phaser job t p is there (inl (j, place)) in
      let r = of_number p n e in
      let place_r : index_in (signalled_by (task_at job.graph t))
      (get_or (registrations_at job t) r.i no_registration).phaser ≡ Some j =
      ap (λ q. index_in (signalled_by (task_at job.graph t)) q) r.here ∙ place in
      ap (λ m. mode_signals m) (start_mode p n start pp e begun ∙ sym r.has_mode)
      ∙ (is_for job t r.i is there r.few).signals j place_r);
  waits = λ k n start few e begun.
      (let p = input_at (task_at job.graph t) k in
      let pp = on_phaser job t p is there (inr (k, few, refl)) in
      let r = of_number p n e in
      ap (λ m. mode_waits m) (start_mode p n start pp e begun ∙ sym r.has_mode)
      ∙ (is_for job t r.i is there r.few).waits k few (sym r.here));
  offset = λ root. offset_is job t is there ∙ ap (offset_below (opening_offsets job)) root;
  nothing_begun = refl;
  nothing_put = λ j. refl;
  nothing_taken = λ k. refl;
}
  where
    mode_of : (p n : ℕ) → root_number job p t ≡ Some n
        → (mode : Mode) × (root_mode job t p ≡ Some mode)
    mode_of p n e = by (root_mode job t p) refl e
      where
        by : (o : Option Mode) → root_mode job t p ≡ o
            → number_after_founder (roots_joined job p t) o ≡ Some n
            → (mode : Mode) × (root_mode job t p ≡ Some mode)
        by None f g = absurd (cc)
        by (Some mode) f g = (mode, f)

    of_number : (p n : ℕ) → (e : root_number job p t ≡ Some n)
        → HasRegistration job t p (mode_of p n e).0
    of_number p n e =
        has_registration job t p (mode_of p n e).0 (mode_of p n e).1

    start_mode : (p n : ℕ) (start : Entry) → p < length job.graph.phasers
        → (e : root_number job p t ≡ Some n)
        → start_of ((opening job).history p) n ≡ Some start
        → start.mode ≡ (mode_of p n e).0
    start_mode p n start pp e begun =
        let has = has_number job p t n is pp e in
        let same : entry_at has.root.mode 0 0 ≡ start =
        same_Some (entry_at has.root.mode 0 0) start (sym has.begins ∙ begun) in
        ap (λ x. x.mode) (sym same)
        ∙ same_Some has.root.mode (mode_of p n e).0
        (sym has.root.has_mode ∙ (mode_of p n e).1)

has_modes : (job : Job) → IsGraph job.graph → HasModes job (opening job)
has_modes job is t there k d lt =
    rw (← (get_or-any (registrations_at job t) k no_registration d lt)) (λ n start e begun.
    (let p = (get_or (registrations_at job t) k no_registration).phaser in
    let pp = on_phaser job t p is there (is_for job t k is there lt).on_line in
    let has = has_number job p t n is pp e in
    let r = has_registration job t p has.root.mode has.root.has_mode in
    let one : r.i ≡ k = one_registration job t r.i k is there r.few lt r.here in
    let same : entry_at has.root.mode 0 0 ≡ start =
    same_Some (entry_at has.root.mode 0 0) start (sym has.begins ∙ begun) in
    ap (λ x. x.mode) (sym same) ∙ sym r.has_mode
    ∙ ap (λ i. (get_or (registrations_at job t) i no_registration).mode) one))

-- ---- whose the members are

-- whom the founder has registered among the first k tasks is one of them
root_used : (job : Job) (p n k : ℕ) → is_some (start_of (roots_joined job p k) n) ≡ true → n ≢ 0
    → (t : ℕ) × (t < k) × (root_number job p t ≡ Some n)
root_used job p n zero used other =
    let none : is_some (start_of (roots_joined job p 0) n) ≡ false =
    ap (λ b. is_some (cond b (Some founder) None)) (ne_eqb 0 n (λ e. other (sym e))) in
    absurd (let wrong : true ≡ false = sym used ∙ none in cc)
root_used job p n (suc k) used other =
    by (root_mode job k p) refl (λ was. root_used job p n k was other)
  where
    h : History
    h = roots_joined job p k

    more : (t : ℕ) × (t < k) × (root_number job p t ≡ Some n)
        → (t : ℕ) × (t < suc k) × (root_number job p t ≡ Some n)
    more it = let lt = it.1 in (it.0, omega arith, it.2)

    here : (a : ℕ) (mode : Mode) (b : Bool) → eqb a n ≡ b → root_number job p k ≡ Some a
        → is_some (start_of (Registered 0 a mode ∷ h) n) ≡ true
        → (is_some (start_of h n) ≡ true → (t : ℕ) × (t < k) × (root_number job p t ≡ Some n))
        → (t : ℕ) × (t < suc k) × (root_number job p t ≡ Some n)
    here a mode true e number now rec =
        (k, omega arith, number ∙ ap (λ x. Some x) (eqb-true a n e))
    here a mode false e number now rec =
        let is : is_some (start_of (Registered 0 a mode ∷ h) n) ≡ is_some (start_of h n) =
        rw e refl in
        more (rec (sym is ∙ now))

    by : (o : Option Mode) → root_mode job k p ≡ o
        → (is_some (start_of h n) ≡ true → (t : ℕ) × (t < k) × (root_number job p t ≡ Some n))
        → (t : ℕ) × (t < suc k) × (root_number job p t ≡ Some n)
    by None e rec =
        let same : roots_joined job p (suc k) ≡ h = ap (with_root h) e in
        more (rec (ap (λ x. is_some (start_of x n)) (sym same) ∙ used))
    by (Some mode) e rec =
        let a : ℕ = greatest_used h + 1 in
        let same : roots_joined job p (suc k) ≡ Registered 0 a mode ∷ h = ap (with_root h) e in
        here a mode (eqb a n) refl (ap (number_after_founder h) e)
        (ap (λ x. is_some (start_of x n)) (sym same) ∙ used) rec

has_members : (job : Job) → IsGraph job.graph → HasTaskMembers job (opening job)
has_members job is p n pp alive = by (eqb 0 n) refl
  where
    whole : Rooted job p (length job.graph.tasks)
    whole = rooted_at job p (length job.graph.tasks) is pp (omega arith)

    it : IsUsed ((opening job).history p) n × (has_dropped ((opening job).history p) n ≡ false)
    it =
        (alive_law (limits_at job p) ((opening job).history p) n (opening_legal job p whole)).0
        alive

    by : (b : Bool) → eqb 0 n ≡ b → IsOfTask job (opening job) p n
    by true e =
        let gone : has_dropped ((opening job).history p) n ≡ true = rw e refl in
        absurd (let wrong : true ≡ false = sym gone ∙ it.1 in cc)
    by false e =
        root_used job p n (length job.graph.tasks) it.0
        (λ zero_is. (let no = sym (eq-eqb 0 n (sym zero_is)) ∙ e in cc))

-- ---- the whole

pub opening_has_begun : (job : Job) → IsGraph job.graph → HasBegun job (opening job)
opening_has_begun job is = record {
  opened = record {
    phasers = λ p pp. phaser_opened job p is pp;
    tasks = λ t there. task_opened job t is there;
  };
  modes = has_modes job is;
  only_tasks = λ p pp.
      only_roots job p (rooted_at job p (length job.graph.tasks) is pp (omega arith));
  members = has_members job is;
  offset = λ c u there parent.
      offset_is job c is there ∙ ap (offset_below (opening_offsets job)) parent;
}
