-- A block of its line is a number of steps that a task may make.
use Rattle.std.proofs.Common.{◌≡◌, sym, subst}
use Rattle.graph_base.specs.Graphs.{task_at}
use Rattle.stream_lists.specs.Jobs.{with_samples}
use Rattle.stream_job.specs.Stepping.{MayStep}
use Rattle.stream_job.specs.Streams.{StreamState, is_full_by}
use Rattle.stream_job.proofs.Mosts.{line_may}
use Rattle.stream_job.proofs.stream.Stream.is_full.Goals as goal

pub is_full_by-requires-clause-most : goal.is_full_by-requires-clause-most
is_full_by-requires-clause-most c =
    let P : StreamState → Type 0 = λ w. MayStep w.job w.machine c.args.t c.line_block.result in
    let job = c.self.inside.job in
    subst P c.self.view_is
    (subst (λ n. MayStep job c.self.inside.machine c.args.t n) (sym c.line_block.ensures)
    (line_may (with_samples c.self.invariant.0.0 job) c.self.inside.machine c.self.invariant.0.1
    c.args.t c.self.invariant.0.3.machine))

pub returns : goal.returns
returns c =
    let same : c.line_block.result ≡ (task_at c.args.self.now.job.graph c.args.t).block =
    subst (λ (w : StreamState). c.line_block.result ≡ (task_at w.job.graph c.args.t).block)
    c.self.view_is c.line_block.ensures in
    λ s m given at.
    subst (λ n. is_full_by n (with_samples s c.args.self.now.job) m given c.args.t
    ≡ c.is_full_by.result) same (c.is_full_by.ensures.full s m given at)
