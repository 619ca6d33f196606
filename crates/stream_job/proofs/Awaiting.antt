-- The samples that a source has still to signal, of those that came.
use Rattle.std.proofs.Common.{◌≡◌, ℕ, zero, suc, ℤ, List, ◌∷◌, ◌<◌, ◌≤◌, Bool, true, false, [], Option, Some, None, length, drop, get_or, slice_get, refl, sym, ap, subst, ◌∙◌, arith}
use Rattle.std.proofs.lemmas.List.{get_or_past}
use Rattle.std.proofs.lemmas.List.Sums.{count_by-le-length}
use Rattle.std.proofs.lemmas.Option.{none-some, slice_get_read}
use Rattle.phase_accum.specs.Sends.{AreSends}
use Rattle.graph_base.specs.Graphs.{Graph, Task, is_source, source_number, sources_of, task_at}
use Rattle.graph_base.specs.declared.limits.TheConstants.{TASKS_MAX}
use Rattle.stream_lists.specs.Jobs.{Job, samples_in, with_samples}
use Rattle.stream_lists.proofs.Basics.{source_kind, source_within}
use Rattle.graph_runs.specs.Moments.{Moment}
use Rattle.stream_job.specs.Machines.{IsMachineAt, MayHaveCome}
use Rattle.stream_job.specs.Plans.{IsPlan}
use Rattle.stream_job.specs.Streams.{AreInputs, AreKept, InputKeeps}
use Rattle.stream_job.specs.declared.input.Input.{Input}
use Rattle.stream_job.specs.declared.machine.Machine.{Machine}
use Rattle.stream_job.specs.declared.plan.Plan.{Plan}
use Rattle.stream_job.specs.declared.plan.TaskPlan.{TaskPlan}
use Rattle.stream_job.specs.declared.task_state.TaskState.{TaskState}

-- ---- the numbers of sources

pub few_sources : (graph : Graph) → length graph.tasks ≤ TASKS_MAX → sources_of graph ≤ TASKS_MAX
few_sources graph few =
    let is_source_task : Task → Bool = λ task. is_source task.kind in
    let all = count_by-le-length is_source_task graph.tasks in
    omega (arith, all)

-- ---- the input of a source

-- the plan has the number of the source
pub planned : (job : Job) (plan : Plan) (t : ℕ) (one : TaskPlan) → IsPlan job plan
    → t < length job.graph.tasks → one ≡ get_or plan.tasks.items t one
    → one.source ≡ source_number job.graph.tasks t
planned job plan t one is there read =
    let many = is.many in
    (is.each t one
    (slice_get_read plan.tasks.items (length plan.tasks.items) t one refl (omega arith)
    read)).source

-- there is an input of the number
pub input_there : (job : Job) (plan : Plan) (inputs : List Input) (t : ℕ) (one : TaskPlan)
    → IsPlan job plan → AreInputs job inputs → t < length job.graph.tasks
    → is_source (task_at job.graph t).kind ≡ true → one ≡ get_or plan.tasks.items t one
    → one.source < length inputs
input_there job plan inputs t one is are there source read =
    let many = are.many in
    let number = planned job plan t one is there read in
    let within = source_within job.graph t there source in
    omega arith

-- it is read there
pub input_read : (job : Job) (plan : Plan) (inputs : List Input) (t : ℕ) (one : TaskPlan)
    (input : Input) → IsPlan job plan → AreInputs job inputs → t < length job.graph.tasks
    → is_source (task_at job.graph t).kind ≡ true → one ≡ get_or plan.tasks.items t one
    → input ≡ get_or inputs one.source input
    → slice_get inputs (source_number job.graph.tasks t) ≡ Some input
input_read job plan inputs t one input is are there source read found =
    ap (slice_get inputs) (sym (planned job plan t one is there read))
    ∙ slice_get_read inputs (length inputs) one.source input refl
    (input_there job plan inputs t one is are there source read) found

-- ---- what may have come

-- nothing is found past the end
past_end : {X : Type 0} (xs : List X) (i : ℕ) → slice_get xs i ≡ None → length xs ≤ i
past_end [] i e = omega arith
past_end (x ∷ xs) zero e = absurd (none-some x (sym e))
past_end (x ∷ xs) (suc i) e = let rest = past_end xs i e in omega arith

-- all that came can be sent
pub some_sends : (job : Job) (inputs : List Input) (s : List (List ℤ)) (m : Moment) (t : ℕ)
    → AreInputs job inputs → AreKept job s m inputs → length s ≡ sources_of job.graph
    → AreSends (samples_in job s t)
some_sends job inputs s m t are kept each = by (slice_get inputs number) refl
  where
    number : ℕ
    number = source_number job.graph.tasks t

    by : (o : Option Input) → slice_get inputs number ≡ o → AreSends (samples_in job s t)
    by (Some input) e =
        let is = are.each number input e in
        let P : ℕ → Type 0 = λ i. AreSends (get_or s i []) in
        subst P is.number
        (kept input.task input is.there is.kind (ap (slice_get inputs) is.number ∙ e)).sends
    by None e =
        let many : length inputs ≡ sources_of job.graph = are.many in
        let past : length inputs ≤ number = past_end inputs number e in
        subst AreSends (sym (get_or_past s number [] (omega arith))) tt

-- of a task that is no source none is awaited
pub no_source : (job : Job) (machine : Machine) (inputs : List Input) (s : List (List ℤ))
    (m : Moment) (t : ℕ) → is_source (task_at job.graph t).kind ≡ false → AreInputs job inputs
    → length s ≡ sources_of job.graph → IsMachineAt (with_samples s job) m machine
    → AreKept job s m inputs → MayHaveCome job machine t [] s
no_source job machine inputs s m t none are each at kept = record {
  stands = (m, at);
  awaits = λ m' at' there source.
      absurd (let wrong : true ≡ false = sym (ap is_source source) ∙ none in cc);
  sends = λ there. some_sends job inputs s m t are kept each;
}

-- of a source those that its input keeps behind the signalled ones
pub of_source : (job : Job) (machine : Machine) (inputs : List Input) (s : List (List ℤ))
    (m : Moment) (t : ℕ) (state : TaskState) (input : Input) (rest : List ℤ)
    → t < length job.graph.tasks → is_source (task_at job.graph t).kind ≡ true
    → state ≡ get_or machine.tasks.items t state
    → slice_get inputs (source_number job.graph.tasks t) ≡ Some input
    → ((xs : List ℤ) → InputKeeps input state.begun xs → rest ≡ drop state.begun xs)
    → IsMachineAt (with_samples s job) m machine → AreKept job s m inputs
    → MayHaveCome job machine t rest s
of_source job machine inputs s m t state input rest there source read found awaits at kept =
    record {
      stands = (m, at);
      awaits = λ m' at' lt is. ap (λ n. drop n (samples_in job s t)) (begun m' at')
          ∙ sym (awaits (samples_in job s t) keeps);
      sends = λ lt. keeps.sends;
    }
  where
    begun : (m' : Moment) → IsMachineAt (with_samples s job) m' machine → m'.begun t ≡ state.begun
    begun m' at' =
        let many : length machine.tasks.items ≡ length job.graph.tasks = at'.tasks_many in
        (at'.tasks t state
        (slice_get_read machine.tasks.items (length machine.tasks.items) t state refl (omega arith)
        read)).stands.begun

    keeps : InputKeeps input state.begun (samples_in job s t)
    keeps =
        subst (λ n. InputKeeps input n (samples_in job s t)) (begun m at)
        (kept t input there (source_kind (task_at job.graph t).kind source) found)
