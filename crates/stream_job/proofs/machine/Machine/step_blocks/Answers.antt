-- By the call that each kind of step makes.
use Rattle.std.proofs.Common.{ap, ◌∙◌}
use Rattle.stream_lists.specs.Jobs.{with_samples}
use Rattle.stream_job.specs.Stepping.{would_block}
use Rattle.stream_job.specs.Machines.{next_by}
use Rattle.stream_job.proofs.Stalling.{first_wait_blocks, exchange_blocks}
use Rattle.stream_job.proofs.machine.Machine.step_blocks.Goals as goal

pub returns-in-Wait : goal.returns-in-Wait
returns-in-Wait c = λ s m came makes at.
    let job = with_samples s c.args.job.now in
    ap (λ step. would_block job m c.args.t (next_by step)) c.in-Wait.is
    ∙ first_wait_blocks job m c.args.t c.in-Wait.input at.graph makes.sends
    at.reached (makes.is m at ∙ ap next_by c.in-Wait.is)
    ∙ c.wait_blocks.ensures s m at (makes.live m at)

pub returns-in-Exchange : goal.returns-in-Exchange
returns-in-Exchange c = λ s m came makes at.
    let job = with_samples s c.args.job.now in
    ap (λ step. would_block job m c.args.t (next_by step)) c.in-Exchange.is
    ∙ exchange_blocks job m c.args.t at.graph makes.sends at.reached
    (makes.is m at ∙ ap next_by c.in-Exchange.is)
    ∙ c.wait_blocks-in-Exchange.ensures s m at (makes.live m at)
