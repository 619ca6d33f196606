-- The input of a source stands behind those before it.
use Rattle.std.proofs.Common.{◌<◌, ℕ, length, sym, ap, ◌∙◌, arith}
use Rattle.graph_base.specs.Graphs.{is_source, task_at}
use Rattle.stream_job.proofs.OpenedInputs.{inputs_all, inputs_more, inputs_none, inputs_not}
use Rattle.stream_job.proofs.stream.new_inputs.Goals as goal
use Rattle.stream_job.proofs.stream.new_inputs.Goals.{then-is_source+in_ok-new+in_ok-push, else-is_source}

pub loop-t-init : goal.loop-t-init
loop-t-init c = rw c.in_ok-inputs.ensures.items (inputs_none c.args.job.now)

pub loop-t-preserved : goal.loop-t-preserved
loop-t-preserved c =
    let t : ℕ = c.loop-t.t in
    let job = c.args.job.now in
    let inputs = c.loop-t.inputs.items in
    let count = c.tasks-t-end.ensures.count in
    let graph = ap (λ g. length g.tasks) c.graph-2.ensures.graph in
    let there : t < length job.graph.tasks = let lt = c.loop-t-test.true in omega arith in
    let same = ap (λ graph. is_source (task_at graph t).kind)
    (sym c.graph-in-loop-t.ensures.graph) in
    elim c.if-is_source.branch [
      | then-is_source+in_ok-new+in_ok-push w ↦
          let input = w.in_ok-new.field-0 in
          let told = w.in_ok-new.ensures in
          rw (w.inputs-is, w.in_ok-push.ensures.items) (inputs_more job t inputs input
          c.loop-t.invariant there (same ∙ sym c.is_source.ensures ∙ w.if-is_source.true)
          told.task told.room told.kept told.open)
      | else-is_source w ↦
          rw w.inputs-is (inputs_not job t inputs c.loop-t.invariant there
          (same ∙ sym c.is_source.ensures ∙ w.if-is_source.false))
    ]

pub returns-clause-inputs : goal.returns-clause-inputs
returns-clause-inputs c =
    let count = c.tasks-t-end.ensures.count in
    let graph = ap (λ g. length g.tasks) c.graph-2.ensures.graph in
    inputs_all c.args.job.now c.loop-t.t c.loop-t.inputs.items c.loop-t.invariant (omega arith)

pub returns-clause-empty : goal.returns-clause-empty
returns-clause-empty c = c.loop-t.invariant.empty

pub returns-clause-open : goal.returns-clause-open
returns-clause-open c = c.loop-t.invariant.opens
