-- By the number of the samples that are next.
use Rattle.std.proofs.Common.{◌≡◌, sym, ap, ◌∙◌, arith}
use Rattle.stream_lists.specs.Jobs.{with_samples}
use Rattle.graph_runs.specs.Answers.{output_at}
use Rattle.graph_runs.specs.Moments.{Moment, limits_at}
use Rattle.graph_runs.specs.NextBlocks.{block_of, block_up_to, sample_block_of}
use Rattle.graph_runs.specs.Nexts.{number_on}
use Rattle.stream_job.specs.Stepping.{blocks_signal}
use Rattle.stream_job.proofs.Stalling.{sample_blocks, sample_block_is, samples_some}
use Rattle.stream_job.proofs.machine.Machine.samples_block.Goals.{After-block}
use Rattle.stream_job.proofs.machine.Machine.samples_block.Goals as goal

-- the block of the line
block_is : (c : After-block) (m : Moment) → m.begun c.args.t ≡ c.state.result.now.begun
    → block_of c.args.job.now m c.args.t ≡ c.block.result
block_is c m begun =
    ap (λ n. block_up_to n c.args.job.now m c.args.t) (sym c.line_block.ensures)
    ∙ c.block.ensures m begun

pub signal_blocks-requires-clause-some : goal.signal_blocks-requires-clause-some
signal_blocks-requires-clause-some c =
    let s = c.requires.next.0 in
    let came = c.requires.next.1 in
    let makes = c.requires.next.2 in
    let job = with_samples s c.args.job.now in
    let m = makes.some.0 in
    let at = makes.some.1 in
    let some = samples_some job m c.args.t at.graph makes.sends at.reached (makes.is m at) in
    let many = sample_block_is job m c.args.t c.block.result c.args.awaits.now
    (block_is (goal.at.signal_blocks-requires-clause-some c).After-block m
    (c.state.ensures s m at).stands.begun) (makes.is m at)
    (came.awaits m at makes.there) in
    omega (arith, some, many)

pub returns : goal.returns
returns c = λ s m came makes at.
    let job = with_samples s c.args.job.now in
    let p = output_at job c.args.t 0 in
    let same = sample_block_is job m c.args.t c.block.result c.args.awaits.now
    (block_is (goal.at.returns c).After-block m (c.state.ensures s m at).stands.begun) (makes.is m at)
    (came.awaits m at makes.there) in
    let many : sample_block_of job m c.args.t ≡ c.min-many.result = omega (arith, same) in
    sample_blocks job m c.args.t at.graph makes.sends at.reached (makes.is m at)
    ∙ ap (blocks_signal (limits_at job p) (m.history p) (number_on m c.args.t p)) many
    ∙ c.signal_blocks.ensures s m at (makes.live m at)
