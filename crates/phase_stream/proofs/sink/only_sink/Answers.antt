-- The only sink of the tasks before is kept.
use Rattle.std.proofs.Common.{◌<◌, ℕ, length, refl, sym, ap, ◌∙◌, arith}
use Rattle.graph_base.specs.Graphs.{is_sink, task_at}
use Rattle.phase_stream.proofs.Sinking.{only_first, only_none, only_same, only_some, only_two}
use Rattle.phase_stream.proofs.sink.only_sink.Goals as goal
use Rattle.phase_stream.proofs.sink.only_sink.Goals.{then-is_sink+else-is_some, else-is_sink}

pub loop-task-init : goal.loop-task-init
loop-task-init c = refl

pub returns-then-is_some-clause-none : goal.returns-then-is_some-clause-none
returns-then-is_some-clause-none c = λ none.
    let t : ℕ = c.loop-task.task in
    let job = c.args.job.now in
    let count = c.tasks-task-end.ensures.count in
    let graph = ap (λ g. length g.tasks) c.graph.ensures.graph in
    let below = c.loop-task-test.true in
    let there : t < length job.graph.tasks = omega arith in
    let same = ap (λ graph. is_sink (task_at graph t).kind)
    (sym c.graph-in-loop-task.ensures.graph) ∙ sym c.is_sink.ensures in
    only_two job t c.loop-task.only c.loop-task.invariant
    (sym c.is_some.ensures ∙ c.if-is_some.true) there (same ∙ c.if-is_sink.true)

pub loop-task-preserved : goal.loop-task-preserved
loop-task-preserved c =
    let t : ℕ = c.loop-task.task in
    let job = c.args.job.now in
    let same = ap (λ graph. is_sink (task_at graph t).kind)
    (sym c.graph-in-loop-task.ensures.graph) ∙ sym c.is_sink.ensures in
    elim c.if-is_sink.branch [
      | then-is_sink+else-is_some w ↦
          rw w.only-is (only_first job t c.loop-task.only c.loop-task.invariant
          (sym w.is_some.ensures ∙ w.if-is_some.false) (same ∙ w.if-is_sink.true))
      | else-is_sink w ↦
          rw w.only-is (only_same job t c.loop-task.only c.loop-task.invariant
          (same ∙ w.if-is_sink.false))
    ]

pub returns-clause-some : goal.returns-clause-some
returns-clause-some c =
    let count = c.tasks-task-end.ensures.count in
    let graph = ap (λ g. length g.tasks) c.graph.ensures.graph in
    let far = c.loop-task-test.false in
    let near = c.loop-task.auto.task-end in
    only_some c.args.job.now c.loop-task.task c.loop-task.only c.loop-task.invariant (omega arith)

pub returns-clause-none : goal.returns-clause-none
returns-clause-none c =
    let count = c.tasks-task-end.ensures.count in
    let graph = ap (λ g. length g.tasks) c.graph.ensures.graph in
    let far = c.loop-task-test.false in
    let near = c.loop-task.auto.task-end in
    only_none c.args.job.now c.loop-task.task c.loop-task.only c.loop-task.invariant (omega arith)
