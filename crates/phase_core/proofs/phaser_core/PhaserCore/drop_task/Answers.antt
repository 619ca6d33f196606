-- The task leaves the registry, and the board where a waiter is registered after it.
use Rattle.std.proofs.Common.{◌∷◌, length, refl, sym, ap, ◌∙◌}
use Rattle.phase_base.specs.Members.{wait_phases}
use Rattle.phase_registry.specs.Rosters.{Roster}
use Rattle.phase_history.specs.declared.event.Event.TheVariants.{Dropped}
use Rattle.phase_history.specs.Histories.{History}
use Rattle.phase_core.specs.Cores.{StandsFor, core_of}
use Rattle.phase_core.proofs.Boarded.{boarded_while}
use Rattle.phase_core.proofs.Joining.{Joined}
use Rattle.phase_core.proofs.Phasers.{slots_phaser}
use Rattle.phase_core.proofs.Leaving.{drops_alone, drops_core, none_left, stands_there, waiter_left}
use Rattle.phase_core.proofs.phaser_core.PhaserCore.drop_task.Given.{Over}
use Rattle.phase_core.proofs.phaser_core.PhaserCore.drop_task.Goals.{Then-waiters-eq0, After-leave}
use Rattle.phase_core.proofs.phaser_core.PhaserCore.drop_task.Goals as goal

-- where there was no waiter
alone : (g : Over) (c : Then-waiters-eq0 g) (h : History)
    → StandsFor g.A.Accumulate.operation (core_of c.self.inside.registry c.use_slots.new.store.board) h
    → Joined g.A.Accumulate.operation c.remove.new.self c.use_slots.new.store.board (Dropped c.args.task ∷ h)
alone g c h stands =
    let reg = c.self.inside.registry in
    let b = c.use_slots.new.store.board in
    let found = sym c.in-Some.ensures.entry in
    drops_alone g.A.Accumulate.operation reg c.remove.new.self b b h c.args.task c.in-Some.entry stands
    c.use_slots.ensures.core.used found c.remove.ensures.members
    (none_left reg.members c.args.task c.in-Some.entry c.in-Some.ensures.rising found
    (sym c.waiters-waiters.ensures ∙ c.if-waiters-eq0.true)) refl refl

-- where one is left
left : (g : Over) (c : After-leave g) (h : History)
    → StandsFor g.A.Accumulate.operation (core_of c.self.inside.registry c.use_slots.new.store.board) h
    → Joined g.A.Accumulate.operation c.remove.new.self c.leave.new.self (Dropped c.args.task ∷ h)
left g c h stands =
    let o = c.leave.ensures in
    let stood = boarded_while c.use_slots.ensures.core c.waiters-waiters.ensures c.if-waiters-eq0.false in
    drops_core g.A.Accumulate.operation c.self.inside.registry c.remove.new.self c.use_slots.new.store.board
    c.leave.new.self h c.args.task c.in-Some.entry stands stood c.use_slots.ensures.core.used
    c.in-Some.ensures.rising (sym c.in-Some.ensures.entry) c.remove.ensures.members o.left.limits
    o.left.top o.slots o.left.stands o.settled o.stops o.invariant

pub invariant_of-self-then-waiters-eq0 : goal.invariant_of-self-then-waiters-eq0
invariant_of-self-then-waiters-eq0 g c =
    let i = c.use_slots.ensures.core in
    slots_phaser c.use_slots.ensures.slots
    (alone g (goal.at.invariant_of-self-then-waiters-eq0 g c).Then-waiters-eq0 i.history i.stands).holds

pub returns-then-waiters-eq0-clause-after : goal.returns-then-waiters-eq0-clause-after
returns-then-waiters-eq0-clause-after g c h given =
    rw c.use_slots.ensures.slots
    (alone g (goal.at.returns-then-waiters-eq0-clause-after g c).Then-waiters-eq0 h
    (rw (c.use_slots.ensures.shows ∙ c.self.view_is) given)).stands

pub invariant_of-self-then-waiters-eq0-2 : goal.invariant_of-self-then-waiters-eq0-2
invariant_of-self-then-waiters-eq0-2 g c =
    let i = c.use_slots.ensures.core in
    let none =
    sym (ap (λ (r : Roster). length (wait_phases r.members)) c.remove.ensures.members)
    ∙ sym c.waiters.ensures ∙ c.if-waiters-eq0-2.true in
    slots_phaser c.use_slots.ensures.slots
    (drops_alone g.A.Accumulate.operation c.self.inside.registry c.remove.new.self c.use_slots.new.store.board
    c.clear.new.self i.history c.args.task c.in-Some.entry i.stands i.used
    (sym c.in-Some.ensures.entry) c.remove.ensures.members none c.clear.ensures.limits
    c.clear.ensures.top).holds

pub leave-requires-clause-stands : goal.leave-requires-clause-stands
leave-requires-clause-stands g c =
    let b = c.use_slots.new.store.board in
    stands_there g.A.Accumulate.operation c.self.inside.registry.members b.ring b.limits.bound b.done
    b.top c.args.task c.in-Some.entry
    (boarded_while c.use_slots.ensures.core c.waiters-waiters.ensures c.if-waiters-eq0.false)
    (sym c.in-Some.ensures.entry)

pub leave-requires-clause-waiter : goal.leave-requires-clause-waiter
leave-requires-clause-waiter g c =
    let b = c.use_slots.new.store.board in
    waiter_left g.A.Accumulate.operation c.self.inside.registry.members b.ring b.limits.bound b.done
    b.top c.args.task c.in-Some.entry (boarded_while c.use_slots.ensures.core c.waiters-waiters.ensures
    c.if-waiters-eq0.false) c.in-Some.ensures.rising
    (sym c.in-Some.ensures.entry) (λ none. c.if-waiters-eq0-2.false (c.waiters.ensures
    ∙ ap (λ (r : Roster). length (wait_phases r.members)) c.remove.ensures.members ∙ none))

pub invariant_of-self-2 : goal.invariant_of-self-2
invariant_of-self-2 g c =
    let i = c.use_slots.ensures.core in
    slots_phaser c.use_slots.ensures.slots (left g (goal.at.invariant_of-self-2 g c).After-leave i.history i.stands).holds

pub returns-clause-after : goal.returns-clause-after
returns-clause-after g c h given =
    rw c.use_slots.ensures.slots (left g (goal.at.returns-clause-after g c).After-leave h (rw (c.use_slots.ensures.shows ∙ c.self.view_is) given)).stands
