-- The task leaves the phaser that stands behind those that it has left.
use Rattle.std.proofs.Common.{◌≡◌, ◌<◌, ◌≤◌, ◌+◌, cond, length, get_or, ap, sym, subst, ◌∙◌, arith}
use Rattle.std.proofs.lemmas.Bool.{lt-ltb, le-ltb}
use Rattle.graph_base.specs.Graphs.{task_at}
use Rattle.graph_base.specs.Registrations.{registrations_of, no_registration}
use Rattle.graph_runs.specs.Nexts.{registrations_at}
use Rattle.graph_runs.specs.TaskPlaces.{registration_at}
use Rattle.graph_runs.specs.Answers as answers
use Rattle.stream_lists.specs.Jobs.{with_samples}
use Rattle.stream_job.proofs.Setting.{bare_cores, full_cores}
use Rattle.stream_job.specs.declared.turned.Turned.TheVariants.{Moved, Ended}
use Rattle.stream_job.proofs.Lively.{leaves_now, few_left, state_read, state_there}
use Rattle.stream_job.proofs.Leaving.{left_turn, refused_drop, left_tasks}
use Rattle.stream_job.proofs.machine.Machine.leave.Goals.{After-registration-phaser}
use Rattle.stream_job.proofs.machine.Machine.leave.Goals as goal

-- the phaser of the registration that it leaves
here : (c : After-registration-phaser) → c.registration-phaser.result.phaser
    ≡ (registration_at c.args.job.now c.args.t c.index-state.result.now.left).phaser
here c =
    ap (λ r. r.phaser) (c.registration-phaser.ensures
    ∙ ap (λ g. get_or (registrations_of g (task_at g c.args.t)) c.index-state.result.now.left
    no_registration) c.graph.ensures.graph)

pub bounds-deref-left : goal.bounds-deref-left
bounds-deref-left c =
    let s = c.requires.0 in
    let next = c.requires.2 in
    let job = with_samples s c.args.job.now in
    let found = state_read next (λ e. (cc)) c.index-state.ensures in
    let low = (leaves_now job c.args.self.now next.some.0 c.args.t
    c.index-state.result.now next next.some.1 found).stays in
    omega (arith, ap length c.deref.ensures)

pub registration-phaser-requires-clause-number : goal.registration-phaser-requires-clause-number
registration-phaser-requires-clause-number c =
    let s = c.requires.0 in
    let next = c.requires.2 in
    let job = with_samples s c.args.job.now in
    let found = state_read next (λ e. (cc)) c.index-state.ensures in
    let l = leaves_now job c.args.self.now next.some.0 c.args.t
    c.index-state.result.now next next.some.1 found in
    let low = l.stays in
    let all = l.all in
    let few : c.index-state.result.now.left < length (registrations_at job c.args.t) =
    omega arith in
    subst (λ g. c.index-state.result.now.left < length (registrations_of g (task_at g c.args.t)))
    (sym c.graph.ensures.graph) few

pub drop_on-requires-clause-phaser : goal.drop_on-requires-clause-phaser
drop_on-requires-clause-phaser c =
    let s = c.requires.0 in
    let next = c.requires.2 in
    let job = with_samples s c.args.job.now in
    let found = state_read next (λ e. (cc)) c.index-state.ensures in
    let l = leaves_now job c.args.self.now next.some.0 c.args.t
    c.index-state.result.now next next.some.1 found in
    let here = here (goal.at.drop_on-requires-clause-phaser c).After-registration-phaser in
    subst (λ p. p < length job.graph.phasers) (sym here) l.phaser

pub unreachable-requires : goal.unreachable-requires
unreachable-requires c =
    let s = c.requires.0 in
    let next = c.requires.2 in
    let job = with_samples s c.args.job.now in
    let found = state_read next (λ e. (cc)) c.index-state.ensures in
    let here = here (goal.at.unreachable-requires c).After-registration-phaser in
    refused_drop job c.args.self.now c.args.t c.registration-phaser.result.phaser
    (get_or c.deref.result.now c.index-state.result.now.left 0) c.index-state.result.now
    c.in_default.field-0 next found (sym here)
    (sym (ap (λ ns. get_or ns c.index-state.result.now.left 0) c.deref.ensures))
    (λ m at. c.in_default.ensures.refused m.history (bare_cores s at.cores))

pub returns-then-last : goal.returns-then-last
returns-then-last c = λ s steps next.
    let job = with_samples s c.args.job.now in
    let lt = state_there next (λ e. (cc)) in
    let found = state_read next (λ e. (cc)) c.index-state.ensures in
    let here = here (goal.at.returns-then-last c).After-registration-phaser in
    let many = c.len.ensures.value in
    let past : length c.index-state.result.now.numbers.items ≤ c.index-state.result.now.left + 1 =
    (let last = c.if-last.true in omega arith) in
    left_turn job c.args.self.now _ c.args.t c.registration-phaser.result.phaser
    (get_or c.deref.result.now c.index-state.result.now.left 0) c.index-state.result.now Ended
    next found (sym here)
    (sym (ap (λ ns. get_or ns c.index-state.result.now.left 0) c.deref.ensures))
    (λ m at. c.in-Ok.ensures.ok m.history (bare_cores s at.cores)) (λ m at. full_cores s (c.in-Ok.ensures.cores m.history (bare_cores s at.cores)))
    (left_tasks c.args.self.now.tasks.items c.drop_on.new.self.tasks.items c.args.t
    c.index-state.result.now c.index_mut.result.now (ap (λ v. v.items) c.drop_on.ensures.tasks) lt
    c.index-state.ensures c.index_mut.ensures.value)
    c.drop_on.ensures.lines
    (ap (λ b. cond b answers.Moved answers.Ended) (le-ltb (c.index-state.result.now.left + 1)
    (length c.index-state.result.now.numbers.items) past))

pub returns-else-last : goal.returns-else-last
returns-else-last c = λ s steps next.
    let job = with_samples s c.args.job.now in
    let lt = state_there next (λ e. (cc)) in
    let found = state_read next (λ e. (cc)) c.index-state.ensures in
    let here = here (goal.at.returns-else-last c).After-registration-phaser in
    let many = c.len.ensures.value in
    let more : c.index-state.result.now.left + 1 < length c.index-state.result.now.numbers.items =
    (let last = c.if-last.false in omega arith) in
    left_turn job c.args.self.now _ c.args.t c.registration-phaser.result.phaser
    (get_or c.deref.result.now c.index-state.result.now.left 0) c.index-state.result.now Moved
    next found (sym here)
    (sym (ap (λ ns. get_or ns c.index-state.result.now.left 0) c.deref.ensures))
    (λ m at. c.in-Ok.ensures.ok m.history (bare_cores s at.cores)) (λ m at. full_cores s (c.in-Ok.ensures.cores m.history (bare_cores s at.cores)))
    (left_tasks c.args.self.now.tasks.items c.drop_on.new.self.tasks.items c.args.t
    c.index-state.result.now c.index_mut.result.now (ap (λ v. v.items) c.drop_on.ensures.tasks) lt
    c.index-state.ensures c.index_mut.ensures.value)
    c.drop_on.ensures.lines
    (ap (λ b. cond b answers.Moved answers.Ended) (lt-ltb (c.index-state.result.now.left + 1)
    (length c.index-state.result.now.numbers.items) more))

pub offset_bounds-deref-left : goal.offset_bounds-deref-left
offset_bounds-deref-left c =
    let s = c.requires.0 in
    let next = c.requires.2 in
    let job = with_samples s c.args.job.now in
    let found = state_read next (λ e. (cc)) c.index-state.ensures in
    record {
      fits = (few_left job c.args.self.now c.args.t c.index-state.result.now c.deref.result.now
          next found c.deref.ensures c.deref.type_inv.1).1;
    }

pub overflow_add-last : goal.overflow_add-last
overflow_add-last c =
    let s = c.requires.0 in
    let next = c.requires.2 in
    let job = with_samples s c.args.job.now in
    let found = state_read next (λ e. (cc)) c.index-state.ensures in
    record {
      fits = (few_left job c.args.self.now c.args.t c.index-state.result.now c.deref.result.now
          next found c.deref.ensures c.deref.type_inv.1).2;
    }

pub overflow_add-left : goal.overflow_add-left
overflow_add-left c =
    let s = c.requires.0 in
    let next = c.requires.2 in
    let job = with_samples s c.args.job.now in
    let found = state_read next (λ e. (cc)) c.index-state.ensures in
    record {
      fits = (few_left job c.args.self.now c.args.t c.index-state.result.now c.deref.result.now
          next found c.deref.ensures c.deref.type_inv.1).2;
    }

pub drop_on-requires-clause-cores : goal.drop_on-requires-clause-cores
drop_on-requires-clause-cores c =
    let next = c.requires.2 in
    (next.some.0.history, bare_cores c.requires.0 next.some.1.cores)
