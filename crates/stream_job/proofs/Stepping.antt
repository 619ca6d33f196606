-- What a task's next step tells of the task.
use Rattle.std.proofs.Common.{◌≡◌, ◌≢◌, ℕ, ◌<◌, Bool, true, false, ◌||◌, cond, Option, Some, None, length, refl, sym, ◌∙◌, arith}
use Rattle.graph_base.specs.declared.line.Kind.{Kind}
use Rattle.graph_base.specs.declared.line.Kind.TheVariants.{Source, Fir, Split, Decimate, Join, Peer, Sink}
use Rattle.graph_base.specs.Graphs.{task_at}
use Rattle.graph_base.specs.Registrations.{signalled_by}
use Rattle.graph_base.specs.TaskLines.{IsGraph}
use Rattle.stream_lists.specs.Jobs.{Job}
use Rattle.graph_runs.specs.Moments.{Moment, first_input}
use Rattle.graph_runs.proofs.Tasks.{first_looks}
use Rattle.graph_runs.specs.Nexts.{Next, is_not_live, registers, leaves, samples, signals, waits, exchanges, is_live, of_live, at_boundary, next_step, next_of, first_owed, first_due, is_cut, has_input_ended, waits_first}
use Rattle.graph_runs.proofs.Boundaries.{peer_ends}
use Rattle.graph_runs.proofs.Calling.{waits_as_peer, source_ends}
use Rattle.graph_runs.proofs.Signalling.{owed}

-- what is so of task t where this is what it does next
abbrev pub IsSo : Job → Moment → ℕ → Next → Type 0
IsSo job m t is_not_live = Unit {0}
IsSo job m t (registers c) = Unit {0}
IsSo job m t leaves = Unit {0}
IsSo job m t samples = (task_at job.graph t).kind ≡ Source
IsSo job m t (signals j) =
    (first_owed job m t ≡ Some j)
    × (waits_first (task_at job.graph t).kind j (length (m.put t j)) (length (m.taken t 1)) ≡ false)
IsSo job m t (waits k) =
    ((task_at job.graph t).kind ≢ Source)
    × (first_input (task_at job.graph t) (m.begun t) ≡ k)
IsSo job m t exchanges = (task_at job.graph t).kind ≡ Peer

so : (job : Job) (m : Moment) (t : ℕ) (made next : Next) → made ≡ next → IsSo job m t made
    → IsSo job m t next
so job m t made next same is = rw same at is

stepping : (job : Job) (m : Moment) (t : ℕ) (next : Next) → (kind : Kind)
    → (task_at job.graph t).kind ≡ kind
    → next_step (task_at job.graph t) (m.begun t) kind ≡ next → IsSo job m t next
stepping job m t next Source e is = so job m t samples next is e
stepping job m t next Fir e is =
    so job m t (waits (first_input (task_at job.graph t) (m.begun t))) next is
    ((λ source. (let wrong = sym e ∙ source in cc)), refl)
stepping job m t next Split e is =
    so job m t (waits (first_input (task_at job.graph t) (m.begun t))) next is
    ((λ source. (let wrong = sym e ∙ source in cc)), refl)
stepping job m t next Decimate e is =
    so job m t (waits (first_input (task_at job.graph t) (m.begun t))) next is
    ((λ source. (let wrong = sym e ∙ source in cc)), refl)
stepping job m t next Join e is =
    so job m t (waits (first_input (task_at job.graph t) (m.begun t))) next is
    ((λ source. (let wrong = sym e ∙ source in cc)), refl)
stepping job m t next Peer e is =
    so job m t (waits (first_input (task_at job.graph t) (m.begun t))) next is
    ((λ source. (let wrong = sym e ∙ source in cc)), refl)
stepping job m t next Sink e is =
    so job m t (waits (first_input (task_at job.graph t) (m.begun t))) next is
    ((λ source. (let wrong = sym e ∙ source in cc)), refl)

pub next_is : (job : Job) (m : Moment) (t : ℕ) (next : Next) → next_of job m t ≡ next
    → IsSo job m t next
next_is job m t next is = by (is_live job m t) is
  where
    owing : (j : ℕ) → first_owed job m t ≡ Some j → (b : Bool)
        → waits_first (task_at job.graph t).kind j (length (m.put t j)) (length (m.taken t 1)) ≡ b
        → cond b exchanges (signals j) ≡ next → IsSo job m t next
    owing j owes true first is =
        so job m t exchanges next is
        (waits_as_peer (task_at job.graph t).kind j (length (m.put t j)) (length (m.taken t 1))
        first).0
    owing j owes false first is = so job m t (signals j) next is (owes, first)

    childless : (b : Bool)
        → cond b leaves (next_step (task_at job.graph t) (m.begun t) (task_at job.graph t).kind)
        ≡ next → IsSo job m t next
    childless true is = so job m t leaves next is tt
    childless false is = stepping job m t next (task_at job.graph t).kind refl is

    at_rest : (o : Option ℕ) → at_boundary job m t o ≡ next → IsSo job m t next
    at_rest (Some c) is = so job m t (registers c) next is tt
    at_rest None is =
        childless (is_cut (task_at job.graph t).until (m.begun t)
        || has_input_ended job m t (task_at job.graph t).kind) is

    of_owed : (o : Option ℕ) → first_owed job m t ≡ o → of_live job m t o ≡ next
        → IsSo job m t next
    of_owed (Some j) owes is =
        owing j owes (waits_first (task_at job.graph t).kind j (length (m.put t j))
        (length (m.taken t 1))) refl is
    of_owed None none is = at_rest (first_due job m t) is

    by : (b : Bool) → cond b (of_live job m t (first_owed job m t)) is_not_live ≡ next
        → IsSo job m t next
    by true is = of_owed (first_owed job m t) refl is
    by false is = so job m t is_not_live next is tt

-- ---- the output or the input is there

pub sample_output : (job : Job) (m : Moment) (t : ℕ) → IsGraph job.graph
    → t < length job.graph.tasks → next_of job m t ≡ samples
    → 0 < length (signalled_by (task_at job.graph t))
sample_output job m t is there next =
    omega (arith, source_ends job t is there (next_is job m t samples next))

pub signal_output : (job : Job) (m : Moment) (t j : ℕ) → next_of job m t ≡ signals j
    → j < length (signalled_by (task_at job.graph t))
signal_output job m t j next = (owed job m t j (next_is job m t (signals j) next).0).0

pub wait_input : (job : Job) (m : Moment) (t k : ℕ) → IsGraph job.graph
    → t < length job.graph.tasks → next_of job m t ≡ waits k
    → k < length (task_at job.graph t).inputs
wait_input job m t k is there next =
    let here = next_is job m t (waits k) next in
    rw here.1 at (first_looks (task_at job.graph t) (m.begun t) (is.tasks t there).ends here.0).0

pub exchange_input : (job : Job) (m : Moment) (t : ℕ) → IsGraph job.graph
    → t < length job.graph.tasks → next_of job m t ≡ exchanges
    → 1 < length (task_at job.graph t).inputs
exchange_input job m t is there next =
    omega (arith, (peer_ends job t is there (next_is job m t exchanges next)).0)
