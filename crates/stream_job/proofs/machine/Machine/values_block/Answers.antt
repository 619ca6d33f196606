-- Values in range are signalled.
use Rattle.std.proofs.Common.{ap, ◌∙◌, arith}
use Rattle.stream_lists.specs.Jobs.{with_samples}
use Rattle.graph_runs.specs.Answers.{output_at}
use Rattle.graph_runs.specs.Moments.{limits_at}
use Rattle.graph_runs.specs.Nexts.{number_on}
use Rattle.stream_job.specs.Stepping.{blocks_signal}
use Rattle.stream_job.specs.Places.{owed_in, place_in_state}
use Rattle.stream_job.proofs.Stepping.{signal_output}
use Rattle.stream_job.proofs.Stalling.{value_blocks, value_moves, values_many, values_some}
use Rattle.stream_job.proofs.machine.Machine.values_block.Goals as goal

pub returns-then-not-are_in_range : goal.returns-then-not-are_in_range
returns-then-not-are_in_range c = λ s m makes at.
    let job = with_samples s c.args.job.now in
    let state = c.state-state.result.now in
    value_moves state.most job m c.args.t c.args.j (place_in_state state) (makes.is m at)
    (c.state-state.ensures s m at).stands
    (c.are_in_range.ensures ∙ c.if-not-are_in_range.true)

pub signal_blocks-requires-clause-output : goal.signal_blocks-requires-clause-output
signal_blocks-requires-clause-output c =
    let makes = c.requires.1 in
    signal_output (with_samples c.requires.0 c.args.job.now) makes.some.0 c.args.t c.args.j
    (makes.is makes.some.0 makes.some.1)

pub signal_blocks-requires-clause-some : goal.signal_blocks-requires-clause-some
signal_blocks-requires-clause-some c =
    let state = c.state-state.result.now in
    let s = c.requires.0 in
    let makes = c.requires.1 in
    let job = with_samples s c.args.job.now in
    let m = makes.some.0 in
    let at = makes.some.1 in
    let is = makes.is m at in
    let it = c.state-state.ensures s m at in
    let many = values_many state.most job m c.args.t c.args.j
    (owed_in state.owed state.made.items) it.stands.owes is in
    let some = values_some state.most job m c.args.t c.args.j it.most.block.some is in
    omega (arith, c.owed_many.ensures)

pub returns : goal.returns
returns c = λ s m makes at.
    let job = with_samples s c.args.job.now in
    let state = c.state-state.result.now in
    let p = output_at job c.args.t c.args.j in
    let it = c.state-state.ensures s m at in
    value_blocks state.most job m c.args.t c.args.j (place_in_state state) it.most at.graph
    makes.sends at.reached (makes.is m at) it.stands
    (c.are_in_range.ensures ∙ c.if-not-are_in_range.false)
    ∙ ap (blocks_signal (limits_at job p) (m.history p) (number_on m c.args.t p))
    c.owed_many.ensures
    ∙ c.signal_blocks.ensures s m at (makes.live m at)
