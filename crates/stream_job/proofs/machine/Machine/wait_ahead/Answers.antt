-- The task asks as the number that stands at the registration of its input, for the steps of its
-- next block.
use Rattle.std.proofs.Common.{◌≡◌, ◌<◌, ◌*◌, ℤ, List, length, get_or, ap, ◌∙◌, arith}
use Rattle.std.specs.Prelude.{Ok}
use Rattle.phase_history.specs.declared.got.GotBlock.TheVariants as block
use Rattle.graph_runs.specs.Nexts.{waits}
use Rattle.stream_lists.specs.Jobs.{with_samples}
use Rattle.stream_job.specs.Stepping.{IsNextIn}
use Rattle.stream_job.proofs.GoodWaits.{wait_before, wait_never_ended, wait_refused, wait_size}
use Rattle.stream_job.proofs.Lively.{state_read}
use Rattle.stream_job.proofs.Setting.{bare_cores}
use Rattle.stream_job.proofs.Waits.{AsksFirst, first_few, first_waits_at}
use Rattle.stream_job.proofs.machine.Machine.wait_ahead.Goals.{After-good_ahead_on}
use Rattle.stream_job.proofs.machine.Machine.wait_ahead.Goals as goal

-- what the task asks of its phaser
asks : (s : List (List ℤ)) (c : After-good_ahead_on)
    (next : IsNextIn c.args.most (with_samples s c.args.job.now) c.args.self.now c.args.t
    (waits c.args.k))
    → AsksFirst c.args.most (with_samples s c.args.job.now) c.args.self.now c.args.t c.args.k
    (get_or c.deref.result.now c.args.k 0) c.input_of-phaser.result c.block-steps.result
    c.index.result.now
asks s c next =
    let again = state_read next (λ e. (cc)) c.index-2.ensures in
    record {
      next = next;
      found = state_read next (λ e. (cc)) c.index.ensures;
      phaser = c.input_of-phaser.ensures.phaser;
      numbered = ap (λ ns. get_or ns c.args.k 0) c.deref.ensures;
      many = λ m at.
          c.block-steps.ensures m (at.tasks c.args.t c.index-2.result.now again).stands.begun;
    }

pub input_of-phaser-requires-clause-input : goal.input_of-phaser-requires-clause-input
input_of-phaser-requires-clause-input c =
    let next = c.requires.next.1 in
    first_few (with_samples c.requires.next.0 c.args.job.now) c.args.self.now next.some.0 c.args.t
    c.args.k next next.some.1

pub offset_bounds-deref-k : goal.offset_bounds-deref-k
offset_bounds-deref-k c =
    let s = c.requires.next.0 in
    let next = c.requires.next.1 in
    let job = with_samples s c.args.job.now in
    let found = state_read next (λ e. (cc)) c.index.ensures in
    let place = (first_waits_at job c.args.self.now next.some.0 c.args.t c.args.k
    c.index.result.now next next.some.1 found).place in
    let long : length c.deref.result.now ≡ length c.index.result.now.numbers.items =
    ap length c.deref.ensures in
    let small : length c.deref.result.now * 8 < 9223372036854775808 = c.deref.type_inv.1 in
    record { fits = omega arith }

pub bounds-deref-k : goal.bounds-deref-k
bounds-deref-k c =
    let s = c.requires.next.0 in
    let next = c.requires.next.1 in
    let job = with_samples s c.args.job.now in
    let found = state_read next (λ e. (cc)) c.index.ensures in
    let place = (first_waits_at job c.args.self.now next.some.0 c.args.t c.args.k
    c.index.result.now next next.some.1 found).place in
    omega (arith, place, ap length c.deref.ensures)

pub good_ahead_on-requires-clause-cores : goal.good_ahead_on-requires-clause-cores
good_ahead_on-requires-clause-cores c =
    let next = c.requires.next.1 in
    (next.some.0.history, bare_cores c.requires.next.0 next.some.1.cores)

pub returns-then-count-eq0 : goal.returns-then-count-eq0
returns-then-count-eq0 c = λ s next.
    let v = c.in-Ok-Values in
    let a = (goal.at.returns-then-count-eq0 c).After-good_ahead_on in
    let is = v.field-0-is ∙ ap (block.Values v.phase) c.if-count-eq0.true in
    wait_before (with_samples s c.args.job.now) c.args.self.now c.args.t c.args.k
    (get_or c.deref.result.now c.args.k 0) c.input_of-phaser.result c.block-steps.result
    c.index.result.now (asks s a next) v.phase
    (λ m at. v.ensures m.history (bare_cores s at.cores) ∙ ap (λ g. Ok g) is)

pub unreachable-requires : goal.unreachable-requires
unreachable-requires c =
    let s = c.requires.next.0 in
    let next = c.requires.next.1 in
    let a = (goal.at.unreachable-requires c).After-good_ahead_on in
    let v = c.in-Ok-Ended in
    wait_never_ended (with_samples s c.args.job.now) c.args.self.now c.args.t c.args.k
    (get_or c.deref.result.now c.args.k 0) c.input_of-phaser.result c.block-steps.result
    c.index.result.now (asks s a next)
    (λ m at. v.ensures m.history (bare_cores s at.cores) ∙ ap (λ g. Ok g) v.field-0-is)

pub returns-else-count-eq0 : goal.returns-else-count-eq0
returns-else-count-eq0 c = λ s next.
    let v = c.in-Ok-Values in
    let a = (goal.at.returns-else-count-eq0 c).After-good_ahead_on in
    wait_size (with_samples s c.args.job.now) c.args.self.now c.args.t c.args.k
    (get_or c.deref.result.now c.args.k 0) c.input_of-phaser.result c.block-steps.result
    c.index.result.now (asks s a next) v.phase v.count
    (λ m at. v.ensures m.history (bare_cores s at.cores) ∙ ap (λ g. Ok g) v.field-0-is)
    (omega (arith, c.if-count-eq0.false))

pub returns-in-Err : goal.returns-in-Err
returns-in-Err c = λ s next.
    let a = (goal.at.returns-in-Err c).After-good_ahead_on in
    wait_refused (with_samples s c.args.job.now) c.args.self.now c.args.t c.args.k
    (get_or c.deref.result.now c.args.k 0) c.input_of-phaser.result c.block-steps.result
    c.index.result.now (asks s a next) c.in-Err.field-0
    (λ m at. c.in-Err.ensures m.history (bare_cores s at.cores))
