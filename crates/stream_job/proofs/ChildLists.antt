-- Searches among the children of a task.
use Rattle.std.proofs.Common.{◌≡◌, ◌≢◌, ℕ, ◌+◌, ◌<◌, List, [], ◌∷◌, Bool, true, false, ◌&&◌, eqb, Option, Some, None, is_some, length, get_or, set, slice_get, refl, sym, ap, subst, ◌∙◌, arith}
use Rattle.std.specs.List.{filter, find, range_with_len}
use Rattle.std.proofs.lemmas.Bool.{eqb-true, eq-eqb, and_parts}
use Rattle.std.proofs.lemmas.List.Elements.{All-filter, All-get_or, All-from_get_or}
use Rattle.std.proofs.lemmas.List.FromFn.{get_or-range_with_len, length-range_with_len}
use Rattle.std.proofs.lemmas.Option.{slice_get-get_or, slice_get_past}
use Rattle.graph_base.specs.declared.line.Parent.{Parent}
use Rattle.graph_base.specs.Graphs.{task_at}
use Rattle.stream_lists.specs.Jobs.{Job}
use Rattle.stream_lists.proofs.Basics.{find_none_in_range}
use Rattle.graph_runs.specs.Moments.{Moment}
use Rattle.graph_runs.specs.Nexts.{comes_by, first_due, first_missing, is_due}
use Rattle.graph_runs.proofs.Standing.{find-at}
use Rattle.stream_job.specs.Plans.{IsTaskPlan, children_of, is_child_of}
use Rattle.stream_job.specs.declared.plan.TaskPlan.{TaskPlan}
use Rattle.stream_job.proofs.Setting.{slice_get-set_same, slice_get-set_other}

-- what a test finds it finds among those that pass another, where all that it passes do
find-filter : (test pass : ℕ → Bool) (xs : List ℕ) → ((x : ℕ) → test x ≡ true → pass x ≡ true)
    → find test (filter pass xs) ≡ find test xs
find-filter test pass [] all = refl
find-filter test pass (x ∷ xs) all = by (find-filter test pass xs all) (pass x) (test x) refl refl
  where
    by : find test (filter pass xs) ≡ find test xs → (p t : Bool) → pass x ≡ p → test x ≡ t
        → find test (filter pass (x ∷ xs)) ≡ find test (x ∷ xs)
    by rest true true p t = rw (p, t) refl
    by rest true false p t = rw (p, t) rest
    by rest false false p t = rw (p, t) rest
    by rest false true p t = absurd (let wrong : true ≡ false = sym (all x t) ∙ p in cc)

comes-child : (t steps : ℕ) (parent : Option Parent) → comes_by t steps parent ≡ true
    → is_child_of t parent ≡ true
comes-child t steps None e = e
comes-child t steps (Some parent) e = (and_parts _ _ e).0

-- a child that is due is one
due-child : (job : Job) (m : Moment) (t c : ℕ) → is_due job m t c ≡ true
    → is_child_of t (task_at job.graph c).parent ≡ true
due-child job m t c e =
    comes-child t (m.begun t) (task_at job.graph c).parent (and_parts _ _ e).0

among : (job : Job) (m : Moment) (t : ℕ)
    → first_due job m t ≡ find (is_due job m t) (children_of job t)
among job m t =
    sym (find-filter (is_due job m t) (λ c. is_child_of t (task_at job.graph c).parent)
    (range_with_len 0 (length job.graph.tasks)) (due-child job m t))

-- the first of the children that is due
pub first_of_children : (job : Job) (m : Moment) (t i : ℕ) → i < length (children_of job t)
    → ((d : ℕ) → d < i → is_due job m t (get_or (children_of job t) d 0) ≡ false)
    → is_due job m t (get_or (children_of job t) i 0) ≡ true
    → first_due job m t ≡ Some (get_or (children_of job t) i 0)
first_of_children job m t i lt below here =
    among job m t
    ∙ find-at (is_due job m t) (children_of job t) i 0 (omega arith) below (λ less. here)
    ∙ slice_get-get_or (children_of job t) i 0 lt

-- none of them is
pub no_child_due : (job : Job) (m : Moment) (t : ℕ)
    → ((d : ℕ) → d < length (children_of job t)
    → is_due job m t (get_or (children_of job t) d 0) ≡ false)
    → first_due job m t ≡ None
no_child_due job m t below =
    let n = length (children_of job t) in
    among job m t
    ∙ find-at (is_due job m t) (children_of job t) n 0 (omega arith) below
    (λ less. absurd (omega arith))
    ∙ slice_get_past (children_of job t) n (omega arith)

-- each child has a line
pub child_there : (job : Job) (t i : ℕ) → i < length (children_of job t)
    → get_or (children_of job t) i 0 < length job.graph.tasks
child_there job t i lt =
    let n = length job.graph.tasks in
    All-get_or (λ c. c < n) (children_of job t) i 0 lt
    (All-filter (λ c. is_child_of t (task_at job.graph c).parent) (λ c. c < n)
    (range_with_len 0 n) (All-from_get_or (λ c. c < n) (range_with_len 0 n) 0 (below n)))
  where
    below : (n i : ℕ) → i < length (range_with_len 0 n) → get_or (range_with_len 0 n) i 0 < n
    below n i less =
        let long : length (range_with_len 0 n) ≡ n = length-range_with_len 0 n in
        let is : get_or (range_with_len 0 n) i 0 ≡ 0 + i =
        get_or-range_with_len 0 n i 0 (omega arith) in
        omega arith

-- ---- where none comes

-- none is due there
pub none_due_at : (job : Job) (m : Moment) (t steps : ℕ) → m.begun t ≡ steps
    → ((c : ℕ) → c < length job.graph.tasks
    → comes_by t steps (task_at job.graph c).parent ≡ false)
    → first_due job m t ≡ None
none_due_at job m t steps begun none =
    find_none_in_range (is_due job m t) (length job.graph.tasks)
    (λ c lt. ap (λ b. b && is_some (first_missing job m c))
    (ap (λ s. comes_by t s (task_at job.graph c).parent) begun ∙ none c lt))

-- a plan of which one task's was set
pub set_plan : (job : Job) (plans : List TaskPlan) (t : ℕ) (one : TaskPlan)
    → length plans ≡ length job.graph.tasks → t < length plans → IsTaskPlan job t one
    → ((u : ℕ) (other : TaskPlan) → slice_get plans u ≡ Some other → IsTaskPlan job u other)
    → (u : ℕ) (other : TaskPlan) → slice_get (set plans t one) u ≡ Some other
    → IsTaskPlan job u other
set_plan job plans t one many lt is each u other found = by (eqb u t) refl
  where
    by : (b : Bool) → eqb u t ≡ b → IsTaskPlan job u other
    by true e =
        let same : t ≡ u = sym (eqb-true u t e) in
        let it : one ≡ other =
        slice_get-set_same plans t one other lt
        (subst (λ n. slice_get (set plans t one) n ≡ Some other) (sym same) found) in
        subst (IsTaskPlan job u) it (subst (λ n. IsTaskPlan job n one) same is)
    by false e =
        let apart : u ≢ t = λ same. (let no = sym (eq-eqb u t same) ∙ e in cc) in
        each u other (slice_get-set_other plans t u one other apart found)
