-- What a task's place tells of its registrations.
use Rattle.std.proofs.Common.{◌≡◌, ℕ, zero, suc, ◌+◌, ◌-◌, ◌<◌, ◌≤◌, Bool, true, false, not, cond, List, [], ◌∷◌, ◌++◌, Some, is_some, length, get_or, slice_get, refl, sym, ap, subst, ◌∙◌, arith}
use Rattle.std.specs.List.{find}
use Rattle.std.proofs.lemmas.Option.{slice_get-get_or, slice_get_past}
use Rattle.std.proofs.lemmas.List.{length-map, get_or-map, length-append, get_or-append_right, get_or_append_left}
use Rattle.std.proofs.lemmas.Bool.{lt-ltb, le-ltb}
use Rattle.graph_base.specs.TaskLines.{IsGraph}
use Rattle.graph_base.proofs.Registered.{registrations-phasers}
use Rattle.graph_base.specs.Graphs.{Task, task_at}
use Rattle.graph_base.specs.Registrations.{no_registration, signalled_by}
use Rattle.graph_base.specs.declared.line.Kind.{Kind}
use Rattle.graph_base.specs.declared.line.Kind.TheVariants.{Source, Fir, Split, Decimate, Join, Peer, Sink}
use Rattle.stream_lists.specs.Jobs.{Job}
use Rattle.graph_runs.specs.Moments.{Moment, input_at}
use Rattle.graph_runs.specs.Nexts.{registrations_at, first_missing, first_kept, has_registered, has_left}
use Rattle.graph_runs.specs.Answers.{output_at}
use Rattle.graph_runs.specs.TaskPlaces.{TaskPlace, registration_at, registration_of_output, StandsUpTo}

-- a search that fails below n, and not at n, finds what stands at n
pub find-at : {X : Type 0} (test : X → Bool) (xs : List X) (n : ℕ) (d : X) → n ≤ length xs
    → ((i : ℕ) → i < n → test (get_or xs i d) ≡ false)
    → (n < length xs → test (get_or xs n d) ≡ true) → find test xs ≡ slice_get xs n
find-at test [] n d le below here = sym (slice_get_past [] n (omega arith))
find-at test (x ∷ xs) zero d le below here = ap (λ b. cond b (Some x) (find test xs)) (here (omega arith))
find-at test (x ∷ xs) (suc n) d le below here =
    ap (λ b. cond b (Some x) (find test xs)) (below 0 (omega arith))
    ∙ find-at test xs n d (omega arith) (λ i lt. below (suc i) (omega arith))
    (λ lt. here (omega arith))

-- the first registration that a task misses is the one behind its numbers
pub missing : {most : ℕ} (job : Job) (m : Moment) (t : ℕ) (at : TaskPlace) → StandsUpTo most job m t at
    → first_missing job m t ≡ slice_get (registrations_at job t) (length at.numbers)
missing job m t at stands =
    find-at (λ r. not (has_registered m t r)) (registrations_at job t) (length at.numbers)
    no_registration stands.few below here
  where
    below : (i : ℕ) → i < length at.numbers
        → not (has_registered m t (registration_at job t i)) ≡ false
    below i lt =
        ap (λ o. not (is_some o)) (stands.numbered i (omega arith)
        ∙ slice_get-get_or at.numbers i 0 lt)

    here : length at.numbers < length (registrations_at job t)
        → not (has_registered m t (registration_at job t (length at.numbers))) ≡ true
    here lt =
        ap (λ o. not (is_some o)) (stands.numbered (length at.numbers) lt
        ∙ slice_get_past at.numbers (length at.numbers) (omega arith))

-- the first phaser that a task has not left, where it is registered on all
pub kept : {most : ℕ} (job : Job) (m : Moment) (t : ℕ) (at : TaskPlace) → StandsUpTo most job m t at
    → length at.numbers ≡ length (registrations_at job t)
    → first_kept job m t ≡ slice_get (registrations_at job t) at.left
kept job m t at stands all =
    find-at (λ r. not (has_left m t r)) (registrations_at job t) at.left no_registration
    (few stands.few_left) below here
  where
    few : at.left ≤ length at.numbers → at.left ≤ length (registrations_at job t)
    few le = omega arith

    below : (i : ℕ) → i < at.left → not (has_left m t (registration_at job t i)) ≡ false
    below i lt =
        ap not (stands.leaves i (omega (arith, stands.few_left)) ∙ lt-ltb i at.left lt)

    here : at.left < length (registrations_at job t)
        → not (has_left m t (registration_at job t at.left)) ≡ true
    here lt = ap not (stands.leaves at.left (omega arith) ∙ le-ltb at.left at.left (omega arith))

-- where the phasers of the registrations are the inputs and then the outputs
phaser-is : (job : Job) (t i : ℕ) → IsGraph job.graph → t < length job.graph.tasks
    → i < length (registrations_at job t)
    → (registration_at job t i).phaser
    ≡ get_or ((task_at job.graph t).inputs ++ (task_at job.graph t).outputs) i 0
phaser-is job t i is there lt =
    sym (get_or-map (λ r. r.phaser) (registrations_at job t) i no_registration 0 lt)
    ∙ ap (λ ps. get_or ps i 0)
    (registrations-phasers job.graph t (task_at job.graph t) (is.tasks t there))

-- there are as many as inputs and outputs
pub many : (job : Job) (t : ℕ) → IsGraph job.graph → t < length job.graph.tasks
    → length (registrations_at job t)
    ≡ length (task_at job.graph t).inputs + length (task_at job.graph t).outputs
many job t is there =
    sym (length-map (registrations_at job t) (λ r. r.phaser))
    ∙ ap length (registrations-phasers job.graph t (task_at job.graph t) (is.tasks t there))
    ∙ length-append (task_at job.graph t).inputs (task_at job.graph t).outputs

-- registration k is that of input k
pub of_input : (job : Job) (t k : ℕ) → IsGraph job.graph → t < length job.graph.tasks
    → k < length (task_at job.graph t).inputs
    → (registration_at job t k).phaser ≡ input_at (task_at job.graph t) k
of_input job t k is there lt =
    phaser-is job t k is there (omega (arith, many job t is there))
    ∙ get_or_append_left (task_at job.graph t).inputs (task_at job.graph t).outputs 0 k lt

-- that of output j is on output j
pub of_output : (job : Job) (t j : ℕ) → IsGraph job.graph → t < length job.graph.tasks
    → j < length (signalled_by (task_at job.graph t))
    → (registration_of_output (task_at job.graph t) j < length (registrations_at job t))
    × ((registration_at job t (registration_of_output (task_at job.graph t) j)).phaser
    ≡ output_at job t j)
of_output job t j is there lt = by (task_at job.graph t).kind refl
  where
    task : Task
    task = task_at job.graph t

    Found : Type 0
    Found = (registration_of_output task j < length (registrations_at job t))
        × ((registration_at job t (registration_of_output task j)).phaser ≡ output_at job t j)

    here : (i : ℕ) → registration_of_output task j ≡ i → i < length (registrations_at job t)
        → get_or (task.inputs ++ task.outputs) i 0 ≡ output_at job t j → Found
    here i e less same = (
      subst (λ n. n < length (registrations_at job t)) (sym e) less,
      ap (λ n. (registration_at job t n).phaser) e ∙ phaser-is job t i is there less ∙ same,
    )

    plain : registration_of_output task j ≡ length task.inputs + j
        → signalled_by task ≡ task.outputs → Found
    plain e same =
        let all = many job t is there in
        let long : length (signalled_by task) ≡ length task.outputs = ap length same in
        let low : length task.inputs ≤ length task.inputs + j = omega arith in
        let off : length task.inputs + j - length task.inputs ≡ j = omega arith in
        here (length task.inputs + j) e (omega arith)
        (get_or-append_right task.inputs task.outputs (length task.inputs)
        (length task.inputs + j) 0 refl low ∙ ap (λ i. get_or task.outputs i 0) off
        ∙ sym (ap (λ qs. get_or qs j 0) same))

    of_peer : length task.inputs ≡ 2 → length task.outputs ≡ 1
        → signalled_by task ≡ get_or task.inputs 1 0 ∷ get_or task.outputs 0 0 ∷ []
        → registration_of_output task j ≡ suc j → (i : ℕ) → j ≡ i → i < 2 → Found
    of_peer two one same e zero is_j lt =
        let all = many job t is there in
        here 1 (e ∙ ap suc is_j) (omega arith)
        (get_or_append_left task.inputs task.outputs 0 1 (omega arith)
        ∙ sym (ap (λ qs. get_or qs j 0) same ∙ ap (λ i. get_or (get_or task.inputs 1 0 ∷ get_or task.outputs 0 0 ∷ []) i 0) is_j))
    of_peer two one same e (suc zero) is_j lt =
        let all = many job t is there in
        let low : length task.inputs ≤ 2 = omega arith in
        let off : 2 - length task.inputs ≡ 0 = omega arith in
        here 2 (e ∙ ap suc is_j) (omega arith)
        (get_or-append_right task.inputs task.outputs (length task.inputs) 2 0 refl low
        ∙ ap (λ i. get_or task.outputs i 0) off
        ∙ sym (ap (λ qs. get_or qs j 0) same ∙ ap (λ i. get_or (get_or task.inputs 1 0 ∷ get_or task.outputs 0 0 ∷ []) i 0) is_j))
    of_peer two one same e (suc (suc i)) is_j lt = absurd (omega arith)

    by : (kind : Kind) → task.kind ≡ kind → Found
    by Source e = plain (rw e refl) (rw e refl)
    by Fir e = plain (rw e refl) (rw e refl)
    by Split e = plain (rw e refl) (rw e refl)
    by Decimate e = plain (rw e refl) (rw e refl)
    by Join e = plain (rw e refl) (rw e refl)
    by Sink e = plain (rw e refl) (rw e refl)
    by Peer e =
        let both : (length task.inputs ≡ 2) × (length task.outputs ≡ 1) =
        rw e at (is.tasks t there).ends in
        let same : signalled_by task ≡ get_or task.inputs 1 0 ∷ get_or task.outputs 0 0 ∷ [] =
        rw e refl in
        of_peer both.0 both.1 same (rw e refl) j refl (omega (arith, ap length same))
