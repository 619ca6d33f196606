-- What a block of waits leaves a filter to put: an output for each value that it got, in order.
use Rattle.std.proofs.Common.{◌≡◌, ℕ, ◌+◌, ◌<◌, List, [], ◌++◌, length, get_or, ℤ, refl, sym, ap, ◌∙◌, arith}
use Rattle.std.specs.Prelude.{drop}
use Rattle.std.proofs.Math.Seq.{drop-append_seam}
use Rattle.stream_filters.specs.Filter.{outputs}
use Rattle.stream_filters.proofs.Outputs.{outputs-block}
use Rattle.graph_base.specs.declared.line.Kind.TheVariants.{Fir}
use Rattle.graph_base.specs.Graphs.{task_at}
use Rattle.graph_base.specs.TaskLines.{IsGraph}
use Rattle.stream_lists.specs.Jobs.{Job}
use Rattle.stream_lists.specs.Spans.{signalled_by, puts_on}
use Rattle.graph_runs.specs.Moments.{Moment, TaskRan, made_now, taken_now}
use Rattle.graph_runs.proofs.Tasks.{now_at}
use Rattle.graph_runs.specs.TaskPlaces.{outputs_of_block}
use Rattle.graph_runs.proofs.Following.{GetsAll}
use Rattle.graph_runs.proofs.Boundaries.{made_many}

-- what a filter that owed nothing owes after it got these numbers
pub record OwesBlock (job : Job) (m after : Moment) (t : ℕ) (xs : List ℤ) : Type 0 where
  pub values : drop (length (after.put t 0)) (made_now job after t 0)
      ≡ outputs_of_block (task_at job.graph t).taps (task_at job.graph t).form (m.taken t 0) xs
  pub many : length (made_now job after t 0) ≡ length (after.put t 0) + length xs

pub fir_owes_block : (job : Job) (m after : Moment) (t : ℕ) (xs : List ℤ)
    → IsGraph job.graph → t < length job.graph.tasks → (task_at job.graph t).kind ≡ Fir
    → TaskRan job m t → TaskRan job after t → GetsAll m after t 0 xs
    → after.begun t ≡ m.begun t + length xs
    → m.put t 0 ≡ made_now job m t 0 → OwesBlock job m after t xs
fir_owes_block job m after t xs is there e ran now w steps whole =
    let task = task_at job.graph t in
    let ends : (length task.inputs ≡ 1) × (length task.outputs ≡ 1) =
    rw e at (is.tasks t there).ends in
    let inputs : length task.inputs ≡ 1 = ends.0 in
    let outs : signalled_by task ≡ task.outputs = rw e refl in
    let many : length (signalled_by task) ≡ 1 = ap length outs ∙ ends.1 in
    let now_is : get_or (taken_now after task t) 0 [] ≡ m.taken t 0 ++ xs =
    now_at after task t 0 (omega arith) ∙ w.taken in
    let was : get_or (taken_now m task t) 0 [] ≡ m.taken t 0 = now_at m task t 0 (omega arith) in
    let made : made_now job after t 0 ≡ outputs task.taps task.form (m.taken t 0 ++ xs) =
    (let a : made_now job after t 0
    ≡ outputs task.taps task.form (get_or (taken_now after task t) 0 []) = rw e refl in
    a ∙ ap (λ l. outputs task.taps task.form l) now_is) in
    let before : made_now job m t 0 ≡ outputs task.taps task.form (m.taken t 0) =
    (let a : made_now job m t 0
    ≡ outputs task.taps task.form (get_or (taken_now m task t) 0 []) = rw e refl in
    a ∙ ap (λ l. outputs task.taps task.form l) was) in
    let put : after.put t 0 ≡ outputs task.taps task.form (m.taken t 0) =
    w.put 0 ∙ whole ∙ before in
    let block = outputs_of_block task.taps task.form (m.taken t 0) xs in
    let both : made_now job after t 0 ≡ after.put t 0 ++ block =
    made ∙ outputs-block task.taps task.form (m.taken t 0) xs ∙ ap (λ l. l ++ block) (sym put) in
    let all : length (made_now job after t 0) ≡ puts_on task (after.begun t) 0 =
    made_many job after t 0 is now there (omega arith) in
    let first : length (made_now job m t 0) ≡ puts_on task (m.begun t) 0 =
    made_many job m t 0 is ran there (omega arith) in
    let plain : puts_on task (after.begun t) 0 ≡ after.begun t = rw e refl in
    let plain_before : puts_on task (m.begun t) 0 ≡ m.begun t = rw e refl in
    let same : length (after.put t 0) ≡ length (made_now job m t 0) =
    ap length (w.put 0 ∙ whole) in
    record {
      values = ap (λ l. drop (length (after.put t 0)) l) both ∙ drop-append_seam (after.put t 0) block;
      many = omega arith;
    }
