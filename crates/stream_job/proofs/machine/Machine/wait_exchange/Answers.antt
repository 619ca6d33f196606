-- A peer waits as the number that stands at its second registration.
use Rattle.std.proofs.Common.{rules, SFits, w64, to_z, of_z, ◌<◌, length, get_or, ap, subst, ◌∙◌, arith, to_z-of_z}
use Rattle.std.specs.Prelude.{Ok}
use Rattle.phase_base.specs.declared.limits.TheConstants.{PHASES_MAX}
use Rattle.phase_history.specs.Replies.{after_wait}
use Rattle.graph_base.specs.Graphs.{task_at}
use Rattle.graph_runs.specs.TaskPlaces.{owed_after_exchange, exchange}
use Rattle.graph_runs.specs.Turned.{with_at}
use Rattle.stream_lists.specs.Jobs.{with_samples}
use Rattle.stream_job.specs.Machines.{HasCores}
use Rattle.stream_job.proofs.Lively.{state_read, state_there}
use Rattle.stream_job.proofs.Setting.{set_read, bare_cores, full_cores}
use Rattle.stream_job.proofs.Waits.{exchange_waits_at, phase_few}
use Rattle.stream_job.proofs.Exchanges.{exchange_some, exchanged_turn, blocked_exchange, never_ended, with_owed}
use Rattle.stream_job.proofs.machine.Machine.wait_exchange.Goals as goal

pub bounds-deref-1 : goal.bounds-deref-1
bounds-deref-1 c =
    let s = c.requires.0 in
    let next = c.requires.2 in
    let job = with_samples s c.args.job.now in
    let found = state_read next (λ e. (cc)) c.index-state.ensures in
    let place = (exchange_waits_at job c.args.self.now next.some.0 c.args.t
    c.index-state.result.now next next.some.1 found).place in
    omega (arith, ap length c.deref.ensures)

pub unreachable-requires : goal.unreachable-requires
unreachable-requires c =
    let s = c.requires.0 in
    let next = c.requires.2 in
    let job = with_samples s c.args.job.now in
    let found = state_read next (λ e. (cc)) c.index-state.ensures in
    exchange_some job c.args.self.now c.args.t c.index-state.result.now next found
    (λ x e. c.in_default.not-Exchange x e)

pub unreachable-requires-in-Ok-Ended : goal.unreachable-requires-in-Ok-Ended
unreachable-requires-in-Ok-Ended c =
    let s = c.requires.0 in
    let next = c.requires.2 in
    let job = with_samples s c.args.job.now in
    let found = state_read next (λ e. (cc)) c.index-state.ensures in
    never_ended job c.args.self.now c.args.t (get_or c.deref.result.now 1 0)
    c.input_of-phaser.result c.index-state.result.now next found
    c.input_of-phaser.ensures.phaser (ap (λ ns. get_or ns 1 0) c.deref.ensures)
    (λ m at. c.in-Ok-Ended.ensures.reply m.history (bare_cores s at.cores) ∙ ap (λ g. Ok g) c.in-Ok-Ended.field-0-is)

pub told_got-requires : goal.told_got-requires
told_got-requires c =
    let s = c.requires.0 in
    let next = c.requires.2 in
    let job = with_samples s c.args.job.now in
    let m = next.some.0 in
    let at = next.some.1 in
    let few : c.in-Ok-Value.phase < PHASES_MAX =
    phase_few job m c.input_of-phaser.result (get_or c.deref.result.now 1 0)
    c.in-Ok-Value.phase c.in-Ok-Value.outcome at.reached.ran c.input_of-phaser.ensures.within
    (c.in-Ok-Value.ensures.reply m.history (bare_cores s at.cores) ∙ ap (λ g. Ok g) c.in-Ok-Value.field-0-is) in
    omega arith

pub returns-in-Ok-Value : goal.returns-in-Ok-Value
returns-in-Ok-Value c = λ s steps next.
    let job = with_samples s c.args.job.now in
    let lt = state_there next (λ e. (cc)) in
    let found = state_read next (λ e. (cc)) c.index-state.ensures in
    let fits_x : SFits w64 c.in-Exchange.x = search rules in
    let fits_e : SFits w64 c.number_taken.result = search rules in
    exchanged_turn job c.args.self.now _ c.args.t (get_or c.deref.result.now 1 0)
    c.input_of-phaser.result c.in-Ok-Value.phase c.in-Exchange.x c.in-Ok-Value.outcome
    c.index-state.result.now c.owed_after_exchange.result c.told_got.result next found
    c.input_of-phaser.ensures.phaser (ap (λ ns. get_or ns 1 0) c.deref.ensures) c.in-Exchange.is
    (λ m at. c.in-Ok-Value.ensures.reply m.history (bare_cores s at.cores) ∙ ap (λ g. Ok g) c.in-Ok-Value.field-0-is)
    (λ m at. subst (λ g. HasCores job (with_at c.input_of-phaser.result
    (after_wait (Ok g) (get_or c.deref.result.now 1 0) (m.history c.input_of-phaser.result))
    m.history) c.wait_on.new.self.cores.items) c.in-Ok-Value.field-0-is
    (full_cores s (c.in-Ok-Value.ensures.cores m.history (bare_cores s at.cores))))
    (set_read (λ s. with_owed s c.owed_after_exchange.result) c.args.self.now.tasks.items
    c.wait_on.new.self.tasks.items c.args.t c.index-state.result.now c.index_mut.result.now
    (ap (λ v. v.items) c.wait_on.ensures.tasks) lt c.index-state.ensures c.index_mut.ensures.value)
    c.wait_on.ensures.lines
    (c.owed_after_exchange.ensures
    ∙ ap (λ y. owed_after_exchange (task_at job.graph c.args.t) (exchange y)
    (to_z w64 (of_z w64 c.number_taken.result))) (to_z-of_z fits_x)
    ∙ ap (owed_after_exchange (task_at job.graph c.args.t) (exchange c.in-Exchange.x))
    (to_z-of_z fits_e ∙ c.number_taken.ensures))
    c.told_got.ensures

pub returns-in-Err : goal.returns-in-Err
returns-in-Err c = λ s steps next.
    let job = with_samples s c.args.job.now in
    let found = state_read next (λ e. (cc)) c.index-state.ensures in
    blocked_exchange job c.args.self.now c.wait_on.new.self c.args.t
    (get_or c.deref.result.now 1 0) c.input_of-phaser.result c.index-state.result.now
    c.in-Err.field-0 next found c.input_of-phaser.ensures.phaser
    (ap (λ ns. get_or ns 1 0) c.deref.ensures) (λ m at. c.in-Err.ensures.reply m.history (bare_cores s at.cores)) (λ m at. full_cores s (c.in-Err.ensures.cores m.history (bare_cores s at.cores)))
    c.wait_on.ensures.tasks c.wait_on.ensures.lines

pub wait_on-requires-clause-cores : goal.wait_on-requires-clause-cores
wait_on-requires-clause-cores c =
    let next = c.requires.2 in
    (next.some.0.history, bare_cores c.requires.0 next.some.1.cores)
