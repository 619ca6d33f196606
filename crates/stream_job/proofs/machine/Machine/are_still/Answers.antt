-- The loop stops at the first task that would move.
use Rattle.std.proofs.Common.{◌≡◌, ◌<◌, length, ap, ◌∙◌, arith, sym, true}
use Rattle.stream_lists.proofs.Basics.{one_more}
use Rattle.graph_runs.specs.Answers.{is_still}
use Rattle.stream_job.proofs.Stalling.{rest_in_line}
use Rattle.stream_job.proofs.Searching.{all_in_range, not_all_in_range}
use Rattle.stream_job.proofs.machine.Machine.are_still.Goals as goal
use Rattle.stream_job.proofs.machine.Machine.are_still.Goals.{else-not-marks-t-via-then-not-marks-t+else-not-is_still, else-not-marks-t-via-else-not-marks-t}

pub returns-then-not-is_still : goal.returns-then-not-is_still
returns-then-not-is_still c = λ m at marked.
    let count : c.tasks-t-end.result ≡ length c.args.job.now.graph.tasks =
    c.tasks-t-end.ensures.count ∙ ap (λ g. length g.tasks) c.graph.ensures.graph in
    let lt : c.loop-t.t < c.tasks-t-end.result = c.loop-t-test.true in
    not_all_in_range (is_still c.args.job.now m) (length c.args.job.now.graph.tasks) c.loop-t.t
    (omega arith)
    (sym (rest_in_line c.args.job.now c.args.self.now m c.loop-t.t c.requires.sizes at (omega arith))
    ∙ c.is_still.ensures c.args.job.now.samples m c.awaits.ensures at ∙ c.if-not-is_still.true)

pub loop-t-preserved : goal.loop-t-preserved
loop-t-preserved c = λ m at marked d lt.
    let count : c.tasks-t-end.result ≡ length c.args.job.now.graph.tasks =
    c.tasks-t-end.ensures.count ∙ ap (λ g. length g.tasks) c.graph.ensures.graph in
    let within : c.loop-t.t < c.tasks-t-end.result = c.loop-t-test.true in
    let here : is_still c.args.job.now m c.loop-t.t ≡ true = elim c.else-not-marks-t.branch [
      | else-not-marks-t-via-then-not-marks-t+else-not-is_still w ↦
          sym (rest_in_line c.args.job.now c.args.self.now m c.loop-t.t c.requires.sizes at
          (omega arith))
          ∙ w.is_still.ensures c.args.job.now.samples m w.awaits.ensures at
          ∙ w.if-not-is_still.false
      | else-not-marks-t-via-else-not-marks-t w ↦ marked c.loop-t.t w.if-not-marks-t.false
    ] in
    one_more (λ x. is_still c.args.job.now m x ≡ true) c.loop-t.t (c.loop-t.invariant m at marked)
    here d lt

pub returns : goal.returns
returns c = λ m at marked.
    let count : c.tasks-t-end.result ≡ length c.args.job.now.graph.tasks =
    c.tasks-t-end.ensures.count ∙ ap (λ g. length g.tasks) c.graph.ensures.graph in
    all_in_range (is_still c.args.job.now m) (length c.args.job.now.graph.tasks)
    (λ d lt. c.loop-t.invariant m at marked d (let past = c.loop-t-test.false in omega arith))
