use Rattle.std.proofs.Common.{sym, ◌∙◌}
use Rattle.stream_eval.proofs.Dropped.{gone-keep, gone-drop}
use Rattle.stream_eval.proofs.reading.drop_read.Goals as goal
use Rattle.stream_eval.proofs.reading.drop_read.Goals.{then-not-is_read_from, else-not-is_read_from}

-- one more list is gone through
pub loop-q-preserved : goal.loop-q-preserved
loop-q-preserved c =
    elim c.if-not-is_read_from.branch [
      | then-not-is_read_from w ↦
          rw w.lists-is
          (gone-drop c.args.job.now c.args.p c.args.lists.now c.loop-q.lists c.loop-q.q w.new.result
          c.loop-q.invariant c.loop-q-test.true (sym c.is_read_from.ensures ∙ w.if-not-is_read_from.true)
          w.new.ensures.items)
      | else-not-is_read_from w ↦
          rw w.lists-is
          (gone-keep c.args.job.now c.args.p c.args.lists.now c.loop-q.lists c.loop-q.q
          c.loop-q.invariant (sym c.is_read_from.ensures ∙ w.if-not-is_read_from.false))
    ]
