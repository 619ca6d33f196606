-- A peer asks as the number that stands at its second registration.
use Rattle.std.proofs.Common.{length, get_or, ap, ◌∙◌, arith}
use Rattle.std.specs.Prelude.{Ok}
use Rattle.phase_history.specs.declared.got.GotBlock.TheVariants as block
use Rattle.stream_lists.specs.Jobs.{with_samples}
use Rattle.stream_job.proofs.GoodWaits.{exchange_before, exchange_never_ended, exchange_refused, exchange_size}
use Rattle.stream_job.proofs.Lively.{state_read}
use Rattle.stream_job.proofs.Setting.{bare_cores}
use Rattle.stream_job.proofs.Waits.{exchange_waits_at}
use Rattle.stream_job.proofs.machine.Machine.exchange_ahead.Goals as goal

pub bounds-deref-1 : goal.bounds-deref-1
bounds-deref-1 c =
    let s = c.requires.0 in
    let next = c.requires.1 in
    let job = with_samples s c.args.job.now in
    let found = state_read next (λ e. (cc)) c.index.ensures in
    let place = (exchange_waits_at job c.args.self.now next.some.0 c.args.t c.index.result.now next
    next.some.1 found).place in
    omega (arith, place, ap length c.deref.ensures)

pub good_ahead_on-requires-clause-cores : goal.good_ahead_on-requires-clause-cores
good_ahead_on-requires-clause-cores c =
    let next = c.requires.1 in
    (next.some.0.history, bare_cores c.requires.0 next.some.1.cores)

pub returns-then-count-eq0 : goal.returns-then-count-eq0
returns-then-count-eq0 c = λ s next.
    let v = c.in-Ok-Values in
    let is = v.field-0-is ∙ ap (block.Values v.phase) c.if-count-eq0.true in
    exchange_before (with_samples s c.args.job.now) c.args.self.now c.args.t
    (get_or c.deref.result.now 1 0) c.input_of-phaser.result c.index.result.now next
    (state_read next (λ e. (cc)) c.index.ensures) c.input_of-phaser.ensures.phaser
    (ap (λ ns. get_or ns 1 0) c.deref.ensures) v.phase
    (λ m at. v.ensures m.history (bare_cores s at.cores) ∙ ap (λ g. Ok g) is)

pub unreachable-requires : goal.unreachable-requires
unreachable-requires c =
    let s = c.requires.0 in
    let next = c.requires.1 in
    let v = c.in-Ok-Ended in
    exchange_never_ended (with_samples s c.args.job.now) c.args.self.now c.args.t
    (get_or c.deref.result.now 1 0) c.input_of-phaser.result c.index.result.now next
    (state_read next (λ e. (cc)) c.index.ensures) c.input_of-phaser.ensures.phaser
    (ap (λ ns. get_or ns 1 0) c.deref.ensures)
    (λ m at. v.ensures m.history (bare_cores s at.cores) ∙ ap (λ g. Ok g) v.field-0-is)

pub returns-else-count-eq0 : goal.returns-else-count-eq0
returns-else-count-eq0 c = λ s next.
    let v = c.in-Ok-Values in
    exchange_size (with_samples s c.args.job.now) c.args.self.now c.args.t
    (get_or c.deref.result.now 1 0) c.input_of-phaser.result c.index.result.now next
    (state_read next (λ e. (cc)) c.index.ensures) c.input_of-phaser.ensures.phaser
    (ap (λ ns. get_or ns 1 0) c.deref.ensures) v.phase v.count
    (λ m at. v.ensures m.history (bare_cores s at.cores) ∙ ap (λ g. Ok g) v.field-0-is)
    (omega (arith, c.if-count-eq0.false))

pub returns-in-Err : goal.returns-in-Err
returns-in-Err c = λ s next.
    exchange_refused (with_samples s c.args.job.now) c.args.self.now c.args.t
    (get_or c.deref.result.now 1 0) c.input_of-phaser.result c.index.result.now next
    (state_read next (λ e. (cc)) c.index.ensures) c.input_of-phaser.ensures.phaser
    (ap (λ ns. get_or ns 1 0) c.deref.ensures) c.in-Err.field-0
    (λ m at. c.in-Err.ensures m.history (bare_cores s at.cores))
