use Rattle.std.proofs.Common.{◌≡◌, ◌<◌, length, ap, sym, subst, ◌∙◌}
use Rattle.graph_base.specs.Graphs.{Task, task_at}
use Rattle.graph_base.specs.TaskLines.{HasEnds}
use Rattle.graph_base.specs.declared.line.Kind.TheVariants.{Split}
use Rattle.stream_eval.proofs.members.output_of.Goals as goal

-- there is a list for each input
pub list_put-requires-clause-task : goal.list_put-requires-clause-task
list_put-requires-clause-task g c =
    let task = c.task-task.result.now in
    let line = c.task-task.ensures.line in
    let same = c.task-task.ensures.task
    ∙ ap (λ graph. task_at graph c.args.t) c.graph.ensures.graph in
    let many : length c.deref.result.now ≡ length task.inputs.items =
    ap length c.deref.ensures.value ∙ c.in-Ok.ensures.count in
    record {
      ends = subst (λ n. HasEnds task.kind n (length task.outputs.items)) (sym many) line.ends;
      turn = λ split. subst (λ (of : Task). of.kind ≡ Split → c.args.j < length of.outputs)
          (sym same) c.requires.turn split;
      taps = line.taps;
      every = line.every;
    }
