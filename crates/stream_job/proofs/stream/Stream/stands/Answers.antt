-- One task more.
use Rattle.std.proofs.Common.{◌≡◌, ◌++◌, ap, arith, length, subst, sym, ◌∙◌}
use Rattle.std.specs.List.{flat_map, range_with_len}
use Rattle.graph_base.specs.Graphs.{Graph}
use Rattle.stream_lists.specs.Jobs.{with_samples}
use Rattle.stream_job.specs.Stands.{stands_of}
use Rattle.stream_job.specs.Streams.{StreamState}
use Rattle.stream_job.proofs.StandLists.{flat_map_more}
use Rattle.stream_job.proofs.stream.Stream.stands.Goals as goal

pub loop-t-preserved : goal.loop-t-preserved
loop-t-preserved c = λ s m given at.
    let f = stands_of (with_samples s c.args.self.now.job) m in
    c.in_ok-put_stands.ensures s m given at ∙ ap (λ l. l ++ f c.loop-t.t) (c.loop-t.invariant s m given at)
    ∙ sym (flat_map_more f c.loop-t.t)

pub returns : goal.returns
returns c = λ s m given at.
    let job = c.self.inside.job in
    let many : c.tasks-t-end.result ≡ length job.graph.tasks =
    c.tasks-t-end.ensures.count ∙ ap (λ (g : Graph). length g.tasks) c.graph.ensures.graph in
    let P : StreamState → Type 0 = λ w. c.tasks-t-end.result ≡ length w.job.graph.tasks in
    let count = subst P c.self.view_is many in
    let past = c.loop-t-test.false in
    let upto = c.loop-t.auto.t-end in
    let whole : c.loop-t.t ≡ length c.args.self.now.job.graph.tasks = omega arith in
    c.loop-t.invariant s m given at
    ∙ ap (λ n. flat_map (stands_of (with_samples s c.args.self.now.job) m) (range_with_len 0 n)) whole
