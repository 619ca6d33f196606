-- The child takes the next number on the phaser of its first registration that is missing.
use Rattle.std.proofs.Common.{ℕ, ◌≡◌, ◌<◌, ◌≤◌, ◌+◌, [], ◌∷◌, ◌++◌, length, get_or, sym, ap, subst, ◌∙◌, arith, List, ℤ}
use Rattle.graph_base.specs.Graphs.{task_at, phaser_at}
use Rattle.graph_base.specs.Registrations.{registrations_of, no_registration}
use Rattle.graph_base.specs.declared.registration.Registration.{Registration}
use Rattle.graph_runs.specs.Moments.{limits_at}
use Rattle.graph_runs.specs.Nexts.{registrations_at, registers}
use Rattle.graph_runs.specs.TaskPlaces.{registration_at}
use Rattle.phase_history.specs.Histories.{greatest_used}
use Rattle.stream_lists.specs.Jobs.{with_samples}
use Rattle.stream_job.specs.Stepping.{IsNextIn}
use Rattle.stream_job.specs.declared.task_state.TaskState.{TaskState}
use Rattle.stream_job.proofs.Lively.{live_next}
use Rattle.stream_job.proofs.Setting.{read_same, set_read, bare_cores, full_cores}
use Rattle.stream_job.proofs.Children.{child_below, child_read, child_at, child_turn, refused_child, next_is, room_for_child, with_numbers}
use Rattle.stream_job.proofs.Numbering.{number_left}
use Rattle.stream_job.proofs.machine.Machine.register_child.Goals.{After-registration-registration}
use Rattle.stream_job.proofs.machine.Machine.register_child.Goals as goal

-- the child's first registration that is missing
reg : (c : After-registration-registration) → c.registration-registration.result
    ≡ registration_at c.args.job.now c.args.c (length c.index.result.now.numbers.items)
reg c =
    c.registration-registration.ensures
    ∙ ap (λ g. get_or (registrations_of g (task_at g c.args.c)) c.len-made.result no_registration)
    c.graph-2.ensures.graph ∙ ap (registration_at c.args.job.now c.args.c) c.len-made.ensures.value

-- is on a phaser of the graph
there : {steps : ℕ} (s : List (List ℤ)) (c : After-registration-registration)
    (next : IsNextIn steps (with_samples s c.args.job.now) c.args.self.now c.args.t (registers c.args.c))
    → c.registration-registration.result.phaser < length (with_samples s c.args.job.now).graph.phasers
there s c next =
    subst (λ p. p < length (with_samples s c.args.job.now).graph.phasers)
    (sym (ap (λ (r : Registration). r.phaser) (reg c)))
    (child_at (with_samples s c.args.job.now) c.args.self.now next.some.0 c.args.t c.args.c c.index.result.now
    next next.some.1 (child_read next c.index.ensures)).phaser

pub registration-registration-requires-clause-number :
    goal.registration-registration-requires-clause-number
registration-registration-requires-clause-number c =
    let s = c.requires.0 in
    let next = c.requires.2 in
    let job = with_samples s c.args.job.now in
    let found = child_read next c.index.ensures in
    let less = (child_at job c.args.self.now next.some.0 c.args.t c.args.c c.index.result.now
    next next.some.1 found).few in
    let many = c.len-made.ensures.value in
    let few : c.len-made.result < length (registrations_at job c.args.c) = omega arith in
    subst (λ g. c.len-made.result < length (registrations_of g (task_at g c.args.c)))
    (sym c.graph-2.ensures.graph) few

pub core-requires-clause-phaser : goal.core-requires-clause-phaser
core-requires-clause-phaser c =
    let s = c.requires.0 in
    let next = c.requires.2 in
    let job = with_samples s c.args.job.now in
    there s (goal.at.core-requires-clause-phaser c).After-registration-registration next

pub add_on-requires-clause-places : goal.add_on-requires-clause-places
add_on-requires-clause-places c =
    let s = c.requires.0 in
    let next = c.requires.2 in
    let job = with_samples s c.args.job.now in
    let lt = child_below job c.args.self.now c.args.t c.args.c next in
    let many = next.some.1.tasks_many in (
      there s (goal.at.add_on-requires-clause-places c).After-registration-registration next,
      omega arith,
    )

pub push_reserved-requires : goal.push_reserved-requires
push_reserved-requires c =
    let s = c.requires.0 in
    let next = c.requires.2 in
    let job = with_samples s c.args.job.now in
    let lt = child_below job c.args.self.now c.args.t c.args.c next in
    let found = child_read next c.index.ensures in
    let it = read_same c.args.self.now.tasks.items c.args.c c.index.result.now
    c.index_mut.result.now lt c.index.ensures
    (c.index_mut.ensures.value ∙ ap (λ xs. get_or xs c.args.c c.index_mut.result.now)
    (ap (λ v. v.items) c.add_on.ensures.tasks)) in
    let count : c.registrations-all.result ≡ length (registrations_at job c.args.c) =
    c.registrations-all.ensures.count
    ∙ ap (λ g. length (registrations_of g (task_at g c.args.c))) c.graph.ensures.graph in
    let few = c.registrations-all.ensures.few in
    let nine : length (registrations_at job c.args.c) ≤ 9 = omega arith in
    let room = room_for_child job c.args.self.now next.some.0 c.args.t c.args.c
    c.index.result.now next next.some.1 found nine in (
      omega arith,
      subst (λ (s : TaskState). length s.numbers.items + 1 ≤ s.numbers.capacity) it room,
    )

pub unreachable-requires : goal.unreachable-requires
unreachable-requires c =
    let s = c.requires.0 in
    let next = c.requires.2 in
    let job = with_samples s c.args.job.now in
    let m = next.some.0 in
    let at = next.some.1 in
    let p = c.registration-registration.result.phaser in
    number_left job m c.args.self.now p c.next_number.result at
    (there s (goal.at.unreachable-requires c).After-registration-registration next)
    (c.next_number.ensures (phaser_at job.graph p).op (limits_at job p) (m.history p)
    (c.core.ensures s m at)) c.in_default.is

pub unreachable-requires-in_default-refusal : goal.unreachable-requires-in_default-refusal
unreachable-requires-in_default-refusal c =
    let s = c.requires.0 in
    let next = c.requires.2 in
    let job = with_samples s c.args.job.now in
    let found = child_read next c.index.ensures in
    let reg = reg (goal.at.unreachable-requires-in_default-refusal c).After-registration-registration in
    refused_child job c.args.self.now c.args.t c.args.c
    c.registration-registration.result.phaser c.number_on-parent.result c.in-Some.number
    c.registration-registration.result.mode c.index.result.now c.in-Err.refusal next found
    (sym (ap (λ (r : Registration). r.phaser) reg)) (sym (ap (λ (r : Registration). r.mode) reg))
    (λ m at. c.number_on-parent.ensures s m at (live_next job m c.args.t (registers c.args.c)
    (next.is m at) (λ e. (cc))))
    (λ m at. next_is (greatest_used (m.history c.registration-registration.result.phaser))
    c.in-Some.number (sym (c.next_number.ensures
    (phaser_at job.graph c.registration-registration.result.phaser).op
    (limits_at job c.registration-registration.result.phaser)
    (m.history c.registration-registration.result.phaser) (c.core.ensures s m at)) ∙ c.in-Some.is))
    (λ m at. c.in-Err.ensures.refused c.in_default-refusal.not-OutOfMemory m.history
    (bare_cores s at.cores))

pub returns-in-Ok-clause-made : goal.returns-in-Ok-clause-made
returns-in-Ok-clause-made c = λ s steps next.
    let job = with_samples s c.args.job.now in
    let lt = child_below job c.args.self.now c.args.t c.args.c next in
    let found = child_read next c.index.ensures in
    let reg = reg (goal.at.returns-in-Ok-clause-made c).After-registration-registration in
    let tasks = ap (λ v. v.items) c.add_on.ensures.tasks in
    let it = read_same c.args.self.now.tasks.items c.args.c c.index_mut.result.now
    c.index.result.now lt
    (c.index_mut.ensures.value ∙ ap (λ xs. get_or xs c.args.c c.index_mut.result.now) tasks)
    c.index.ensures in
    child_turn job c.args.self.now _ c.args.t c.args.c c.registration-registration.result.phaser
    c.number_on-parent.result c.in-Some.number c.registration-registration.result.mode
    c.index.result.now c.push_reserved.new.self next found
    (sym (ap (λ (r : Registration). r.phaser) reg)) (sym (ap (λ (r : Registration). r.mode) reg))
    (λ m at. c.number_on-parent.ensures s m at (live_next job m c.args.t (registers c.args.c)
    (next.is m at) (λ e. (cc))))
    (λ m at. next_is (greatest_used (m.history c.registration-registration.result.phaser))
    c.in-Some.number (sym (c.next_number.ensures
    (phaser_at job.graph c.registration-registration.result.phaser).op
    (limits_at job c.registration-registration.result.phaser)
    (m.history c.registration-registration.result.phaser) (c.core.ensures s m at)) ∙ c.in-Some.is))
    (λ m at. c.in-Ok.ensures.ok m.history (bare_cores s at.cores)) (λ m at. full_cores s (c.in-Ok.ensures.cores m.history (bare_cores s at.cores)))
    (c.push_reserved.ensures.items
    ∙ ap (λ (s : TaskState). s.numbers.items ++ c.in-Some.number ∷ []) it)
    (c.push_reserved.ensures.capacity ∙ ap (λ (s : TaskState). s.numbers.capacity) it)
    (set_read (λ s. with_numbers s c.push_reserved.new.self) c.args.self.now.tasks.items
    c.add_on.new.self.tasks.items c.args.c c.index.result.now c.index_mut.result.now tasks lt
    c.index.ensures c.index_mut.ensures.value)
    (c.in-Ok.ensures.lines s)
