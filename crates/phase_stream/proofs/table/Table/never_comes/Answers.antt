-- The parent's column is found, and has left too early.
use Rattle.std.proofs.Common.{◌≡◌, ◌∙◌, Some, length, slice_get, refl, sym, ap, subst}
use Rattle.std.proofs.lemmas.Option.{same_Some, slice_get_read}
use Rattle.graph_base.specs.Graphs.{Graph, Task, task_at}
use Rattle.phase_stream.specs.Columns.{NeverComes}
use Rattle.phase_stream.proofs.table.Table.never_comes.Goals as goal

pub loop-other-init : goal.loop-other-init
loop-other-init c = tt

pub loop-other-preserved : goal.loop-other-preserved
loop-other-preserved c = tt

pub returns-then-other-parent-2 : goal.returns-then-other-parent-2
returns-then-other-parent-2 c = λ e column got.
    (let job = c.args.job.now in
    let items = c.args.self.now.columns.items in
    let own = c.index-column.result.now in
    let u = c.in-Some.parent in
    let found = c.deref-other-items.result.now in
    let read : slice_get items c.args.number ≡ Some own =
    slice_get_read items (length items) c.args.number own refl c.requires c.index-column.ensures in
    let child : (task_at job.graph own.task).parent ≡ Some u =
    subst (λ (g : Graph). (task_at g own.task).parent ≡ Some u) c.graph-2.ensures.graph
    (sym (ap (λ (t : Task). t.parent) c.task.ensures.task) ∙ c.in-Some.is) in
    let there : slice_get items c.loop-other.other-index ≡ Some c.other-item.result =
    ap (λ l. slice_get l c.loop-other.other-index) (sym c.deref-other-items.ensures.value)
    ∙ slice_get_read found (length found) c.loop-other.other-index c.other-item.result refl
    c.loop-other-test.true c.other-item.is in
    subst (NeverComes job items) (same_Some own column (sym read ∙ got)) (record {
      parent = u;
      is_child = child;
      place = c.loop-other.other-index;
      by = c.other-item.result;
      there = there;
      task = c.if-other-parent.true;
      left = c.if-other.true;
      few = c.if-other-parent-2.true;
      started = c.if-not-column.false;
    }))
