-- By how many values it owes before the first that is out of range.
use Rattle.std.proofs.Common.{◌-◌, ap, ◌∙◌, arith}
use Rattle.std.specs.Prelude.{Some}
use Rattle.stream_lists.specs.Jobs.{with_samples}
use Rattle.stream_job.proofs.GoodSignals.{owed_before, owed_begun, owed_good, owed_part}
use Rattle.stream_job.proofs.Lively.{state_read}
use Rattle.stream_job.proofs.Signals.{signals_at}
use Rattle.stream_job.proofs.WentTurns.{all_steps}
use Rattle.stream_job.proofs.machine.Machine.owed_ahead.Goals as goal

pub returns-in_default : goal.returns-in_default
returns-in_default c = λ s next.
    let job = with_samples s c.args.job.now in
    let state = c.index-state.result.now in
    let found = state_read next (λ e. (cc)) c.index-state.ensures in
    let m = next.some.0 in
    let there = (signals_at job c.args.self.now m c.args.t c.args.output state next next.some.1
    found).there in
    all_steps job c.args.self.now c.args.t (next.sized there).block.some
    (owed_good job c.args.self.now c.args.t c.args.output state next found
    (c.good_many.ensures ∙ c.in_default.is))

pub overflow_sub-phase : goal.overflow_sub-phase
overflow_sub-phase c =
    let s = c.requires.0 in
    let next = c.requires.1 in
    let state = c.index-state.result.now in
    let few = owed_begun (with_samples s c.args.job.now) c.args.self.now c.args.t c.args.output
    state next (state_read next (λ e. (cc)) c.index-state.ensures)
    (c.good_many.ensures ∙ c.in-Some.is ∙ ap (λ n. Some n) c.if-many-eq0.true) in
    let many = c.owed_many.ensures in
    omega arith

pub returns-then-many-eq0 : goal.returns-then-many-eq0
returns-then-many-eq0 c = λ s next.
    let job = with_samples s c.args.job.now in
    let state = c.index-state.result.now in
    let found = state_read next (λ e. (cc)) c.index-state.ensures in
    let out = c.good_many.ensures ∙ c.in-Some.is ∙ ap (λ n. Some n) c.if-many-eq0.true in
    let few = owed_begun job c.args.self.now c.args.t c.args.output state next found out in
    let many = c.owed_many.ensures in
    owed_before job c.args.self.now c.args.t c.args.output (state.begun - c.owed_many.result) state
    next found out (omega arith)

pub returns : goal.returns
returns c = λ s next.
    owed_part (with_samples s c.args.job.now) c.args.self.now c.args.t c.args.output c.in-Some.many
    c.index-state.result.now next (state_read next (λ e. (cc)) c.index-state.ensures)
    (c.good_many.ensures ∙ c.in-Some.is) (omega (arith, c.if-many-eq0.false))
