-- A task that has left a phaser, or has made the steps of `until`, makes no more; else its first
-- input tells, or the samples that it awaits.
use Rattle.std.proofs.Common.{◌≡◌, ◌||◌, length, get_or, ap, sym, ◌∙◌, arith, true, false}
use Rattle.phase_base.specs.Members.{entry_of}
use Rattle.phase_history.specs.Histories.{members_of}
use Rattle.graph_base.specs.Graphs.{task_at, phaser_at, is_source}
use Rattle.stream_lists.specs.Jobs.{with_samples}
use Rattle.stream_lists.proofs.Basics.{source_kind}
use Rattle.graph_runs.specs.Moments.{first_input, input_at, limits_at}
use Rattle.graph_runs.specs.Nexts.{has_input_ended}
use Rattle.graph_runs.proofs.Signalling.{live-is}
use Rattle.stream_job.specs.Places.{place_in_state}
use Rattle.stream_job.proofs.Ending.{over_left, over_by_input, over_by_samples, number_of_input, cut_is, no_source}
use Rattle.stream_job.proofs.machine.Machine.is_over.Goals as goal
use Rattle.stream_job.proofs.machine.Machine.is_over.Goals.{then-state-gt0-via-then-state-gt0, then-state-gt0-via-else-state-gt0+then-is_cut}

pub returns-then-state-gt0 : goal.returns-then-state-gt0
returns-then-state-gt0 c = λ s m at awaits live.
    let job = with_samples s c.args.job.now in
    elim c.then-state-gt0.branch [
      | then-state-gt0-via-then-state-gt0 w ↦ over_left job m c.args.t
          (place_in_state c.state-state.result.now) at.graph at.reached.ran
          (c.state-state.ensures s m at).stands live w.if-state-gt0.true
      | then-state-gt0-via-else-state-gt0+then-is_cut w ↦
          ap (λ b. b || has_input_ended job m c.args.t (task_at job.graph c.args.t).kind)
          (cut_is job m c.args.t (place_in_state c.state-state.result.now)
          (c.state-state.ensures s m at).stands w.until_of.result w.until_of.ensures
          ∙ sym w.is_cut.ensures ∙ w.if-is_cut.true)
    ]

pub returns-then-is_source : goal.returns-then-is_source
returns-then-is_source c = λ s m at awaits live.
    let job = with_samples s c.args.job.now in
    let is : is_source (task_at job.graph c.args.t).kind ≡ true =
    ap (λ graph. is_source (task_at graph c.args.t).kind) (sym c.graph.ensures.graph)
    ∙ sym c.is_source.ensures ∙ c.if-is_source.true in
    let source = source_kind (task_at job.graph c.args.t).kind is in
    over_by_samples job m c.args.t c.args.awaits.now
    (cut_is job m c.args.t (place_in_state c.state-state.result.now)
    (c.state-state.ensures s m at).stands c.until_of.result c.until_of.ensures
    ∙ sym c.is_cut.ensures ∙ c.if-is_cut.false)
    source (awaits (live-is job m c.args.t live).there source)
    ∙ sym c.is_empty.ensures

pub bounds-deref-k : goal.bounds-deref-k
bounds-deref-k c =
    let job = with_samples c.requires.0 c.args.job.now in
    let m = c.requires.1.0 in
    let at = c.requires.1.1 in
    let none : is_source (task_at job.graph c.args.t).kind ≡ false =
    ap (λ graph. is_source (task_at graph c.args.t).kind) (sym c.graph.ensures.graph)
    ∙ sym c.is_source.ensures ∙ c.if-is_source.false in
    let few = c.first_input_of-k.ensures.within
    (no_source (task_at job.graph c.args.t).kind none) in
    let in_numbers = (number_of_input job m c.args.t c.first_input_of-k.result
    (place_in_state c.state-state.result.now) at.graph
    (c.state-state.ensures c.requires.0 m at).stands c.requires.1.2 few).0 in
    omega (arith, ap length c.deref.ensures)

pub returns : goal.returns
returns c = λ s m at awaits live.
    let job = with_samples s c.args.job.now in
    let none : is_source (task_at job.graph c.args.t).kind ≡ false =
    ap (λ graph. is_source (task_at graph c.args.t).kind) (sym c.graph.ensures.graph)
    ∙ sym c.is_source.ensures ∙ c.if-is_source.false in
    let never = no_source (task_at job.graph c.args.t).kind none in
    let few = c.first_input_of-k.ensures.within never in
    let stands = (c.state-state.ensures s m at).stands in
    let p : c.input_of.result ≡ input_at (task_at job.graph c.args.t)
    c.first_input_of-k.result = c.input_of.ensures.phaser in
    over_by_input job m c.args.t c.first_input_of-k.result c.input_of.result
    (place_in_state c.state-state.result.now) c.has_run_out.result at.graph at.reached.ran stands live
    (let left = c.if-state-gt0.false in omega arith)
    (cut_is job m c.args.t (place_in_state c.state-state.result.now) stands c.until_of.result
    c.until_of.ensures ∙ sym c.is_cut.ensures ∙ c.if-is_cut.false)
    never
    (c.first_input_of-k.ensures.input ∙ ap (first_input (task_at job.graph c.args.t))
    (sym stands.begun))
    few c.input_of.ensures.within p
    (λ entry found. c.has_run_out.ensures
    (phaser_at job.graph c.input_of.result).op (limits_at job c.input_of.result)
    (m.history c.input_of.result) entry (c.core.ensures s m at)
    (ap (λ ns. entry_of (members_of (m.history c.input_of.result))
    (get_or ns c.first_input_of-k.result 0)) c.deref.ensures ∙ found))
