-- By the number of the input's registration.
use Rattle.std.proofs.Common.{◌≡◌, length, get_or, ap, sym, ◌∙◌, arith}
use Rattle.graph_base.specs.Graphs.{task_at, phaser_at}
use Rattle.stream_lists.specs.Jobs.{with_samples}
use Rattle.graph_runs.specs.Moments.{limits_at, input_at}
use Rattle.graph_runs.specs.Nexts.{number_on}
use Rattle.stream_job.specs.Places.{place_in_state}
use Rattle.stream_job.specs.Stepping.{blocks_wait}
use Rattle.stream_job.proofs.Ending.{number_of_input}
use Rattle.stream_job.proofs.machine.Machine.wait_blocks.Goals as goal

pub bounds-deref-k : goal.bounds-deref-k
bounds-deref-k c =
    let job = with_samples c.requires.live.0 c.args.job.now in
    let m = c.requires.live.1.0 in
    let at = c.requires.live.1.1 in
    let in_numbers = (number_of_input job m c.args.t c.args.k
    (place_in_state c.state.result.now) at.graph (c.state.ensures c.requires.live.0 m at).stands
    c.requires.live.1.2 c.requires.input).0 in
    omega (arith, ap length c.deref.ensures)

pub returns : goal.returns
returns c = λ s m at live.
    let job = with_samples s c.args.job.now in
    let p = c.input_of-p.result in
    let same : p ≡ input_at (task_at job.graph c.args.t) c.args.k = c.input_of-p.ensures.phaser in
    let number = (number_of_input job m c.args.t c.args.k (place_in_state c.state.result.now) at.graph
    (c.state.ensures s m at).stands live c.requires.input).1 in
    sym (ap (λ q. blocks_wait (m.history q) (number_on m c.args.t q)) same)
    ∙ ap (blocks_wait (m.history p))
    (ap (number_on m c.args.t) same ∙ number
    ∙ ap (λ ns. get_or ns c.args.k 0) (sym c.deref.ensures))
    ∙ c.wait_blocks.ensures (phaser_at job.graph p).op (limits_at job p) (m.history p)
    (c.core.ensures s m at)
