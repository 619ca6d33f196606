-- By the number of the output's registration.
use Rattle.std.proofs.Common.{◌≡◌, length, get_or, refl, ap, sym, ◌∙◌, arith}
use Rattle.graph_base.specs.Graphs.{phaser_at}
use Rattle.stream_lists.specs.Jobs.{with_samples}
use Rattle.graph_runs.specs.Moments.{limits_at}
use Rattle.graph_runs.specs.Nexts.{number_on}
use Rattle.graph_runs.specs.Answers.{output_at}
use Rattle.stream_job.specs.Places.{place_in_state}
use Rattle.stream_job.specs.Stepping.{blocks_signal}
use Rattle.stream_job.proofs.Ending.{number_of_output}
use Rattle.stream_job.proofs.machine.Machine.signal_blocks.Goals as goal

pub bounds-deref-k : goal.bounds-deref-k
bounds-deref-k c =
    let job = with_samples c.requires.live.0 c.args.job.now in
    let m = c.requires.live.1.0 in
    let at = c.requires.live.1.1 in
    let in_numbers = (number_of_output job m c.args.t c.args.j
    (place_in_state c.state.result.now) at.graph (c.state.ensures c.requires.live.0 m at).stands
    c.requires.live.1.2 c.requires.output).0 in
    omega (arith, c.output_of-k.ensures.registration, ap length c.deref.ensures)

pub returns : goal.returns
returns c = λ s m at live.
    let job = with_samples s c.args.job.now in
    let p = c.output_of-k.result.1 in
    let same : p ≡ output_at job c.args.t c.args.j = c.output_of-k.ensures.phaser in
    let number = (number_of_output job m c.args.t c.args.j (place_in_state c.state.result.now) at.graph
    (c.state.ensures s m at).stands live c.requires.output).1 in
    sym (ap (λ q. blocks_signal (limits_at job q) (m.history q) (number_on m c.args.t q) c.args.many)
    same)
    ∙ ap (λ n. blocks_signal (limits_at job p) (m.history p) n c.args.many)
    (ap (number_on m c.args.t) same ∙ number
    ∙ ap (λ k. get_or c.state.result.now.numbers.items k 0) (sym c.output_of-k.ensures.registration)
    ∙ ap (λ ns. get_or ns c.output_of-k.result.0 0) (sym c.deref.ensures))
    ∙ c.signal_blocks.ensures (phaser_at job.graph p).op (limits_at job p) (m.history p)
    (c.core.ensures s m at) refl
    (sym (ap (λ line. line.bound) (c.phaser.ensures.phaser
    ∙ ap (λ g. phaser_at g p) c.graph.ensures.graph)))
