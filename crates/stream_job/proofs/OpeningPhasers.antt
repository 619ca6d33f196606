-- The opening of a run, as the code makes it.
use Rattle.std.proofs.Common.{◌≡◌, ℕ, zero, suc, ◌+◌, ◌-◌, ◌^◌, ◌<◌, ◌≤◌, true, Option, Some, None, length, refl, ap, arith}
use Rattle.std.specs.Prelude.{nat_lt}
use Rattle.std.proofs.lemmas.Bool.{lt-ltb}
use Rattle.phase_base.specs.declared.mode.Mode.{Mode}
use Rattle.phase_history.specs.Histories.{History, greatest_used}
use Rattle.phase_history.specs.Refusals.{register_refusal, drop_refusal}
use Rattle.phase_registry.specs.Rosters.{next_after}
use Rattle.graph_base.specs.TaskLines.{IsGraph}
use Rattle.stream_lists.specs.Jobs.{Job}
use Rattle.graph_runs.specs.Beginnings.{root_mode, with_root, roots_joined}
use Rattle.graph_runs.proofs.Beginning.{takes_root, founder_leaves}
use Rattle.graph_runs.proofs.AtOpening.{rooted_at}

-- ---- one phaser

-- one task further
pub roots-suc : (job : Job) (p t : ℕ)
    → roots_joined job p (t + 1) ≡ with_root (roots_joined job p t) (root_mode job t p)
roots-suc job p t =
    let next : t + 1 ≡ suc t = omega arith in
    ap (roots_joined job p) next

-- at most a number for each task
roots-few : (job : Job) (p t : ℕ) → greatest_used (roots_joined job p t) ≤ t
roots-few job p zero = omega arith
roots-few job p (suc t) =
    one (roots_joined job p t) (root_mode job t p) (roots-few job p t)
  where
    one : (h : History) (o : Option Mode) → greatest_used h ≤ t
        → greatest_used (with_root h o) ≤ suc t
    one h None le = omega arith
    one h (Some mode) le = omega arith

-- the founder takes a task as the next number
pub next_root : (job : Job) (p t : ℕ) → IsGraph job.graph → t < length job.graph.tasks
    → next_after (Some (greatest_used (roots_joined job p t)))
    ≡ Some (greatest_used (roots_joined job p t) + 1)
next_root job p t is there =
    let few = roots-few job p t in
    let tasks = is.few_tasks in
    let low : nat_lt (greatest_used (roots_joined job p t)) (2 ^ 64 - 1) ≡ true =
    lt-ltb (greatest_used (roots_joined job p t)) (2 ^ 64 - 1) (omega arith) in
    rw low refl

pub joins_root : (job : Job) (p t : ℕ) (mode : Mode) → IsGraph job.graph
    → p < length job.graph.phasers → t < length job.graph.tasks
    → register_refusal (roots_joined job p t) 0
    (greatest_used (roots_joined job p t) + 1) mode ≡ None
joins_root job p t mode is pp there =
    let rooted = rooted_at job p t is pp (omega arith) in
    let few = rooted.few in
    let tasks = is.few_tasks in
    takes_root (roots_joined job p t) mode rooted.founds (omega arith)

pub founder_goes : (job : Job) (p : ℕ) → IsGraph job.graph → p < length job.graph.phasers
    → drop_refusal (roots_joined job p (length job.graph.tasks)) 0 ≡ None
founder_goes job p is pp =
    founder_leaves job p (length job.graph.tasks)
    (rooted_at job p (length job.graph.tasks) is pp (omega arith))

-- ---- a list that is made element by element
