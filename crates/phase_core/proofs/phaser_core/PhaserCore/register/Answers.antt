-- The child joins beside its parent, on the board too where a waiter is registered.
use Rattle.std.proofs.Common.{◌≡◌, ◌∷◌, true, sym, ◌∙◌, rules}
use Rattle.phase_base.specs.Modes.{holds}
use Rattle.phase_history.specs.declared.event.Event.TheVariants.{Registered}
use Rattle.phase_history.specs.Histories.{History}
use Rattle.phase_core.specs.Cores.{StandsFor, core_of}
use Rattle.phase_core.proofs.Boarded.{boarded_while}
use Rattle.phase_core.proofs.Phasers.{slots_phaser}
use Rattle.phase_core.proofs.Joining.{Joined, accepted, registers_alone, registers_core, stands_beside, room_for_one}
use Rattle.phase_core.proofs.phaser_core.PhaserCore.register.Given.{Over}
use Rattle.phase_core.proofs.phaser_core.PhaserCore.register.Goals.{Then-waiters-eq0, After-register}
use Rattle.phase_core.proofs.phaser_core.PhaserCore.register.Goals as goal

-- where there is no waiter
alone : (g : Over) (c : Then-waiters-eq0 g) (h : History)
    → StandsFor g.A.Accumulate.operation (core_of c.self.inside.registry c.use_slots.new.store.board) h
    → Joined g.A.Accumulate.operation c.add-added.new.self c.use_slots.new.store.board
    (Registered c.args.parent c.args.child c.args.mode ∷ h)
alone g c h stands =
    let op = g.A.Accumulate.operation in
    let b = c.use_slots.new.store.board in
    let held : holds c.in-Some.entry.mode c.args.mode ≡ true = search rules in
    registers_alone op c.self.inside.registry c.add-added.new.self b h c.args.parent c.args.child
    c.args.mode c.in-Some.entry stands (sym c.waiters-waiters.ensures ∙ c.if-waiters-eq0.true)
    (accepted op c.self.inside.registry b.limits b.ring b.top h c.args.parent c.args.child c.args.mode
    c.in-Some.entry stands c.use_slots.ensures.core.used (sym c.in-Some.ensures.entry) held
    c.in_default-added.ensures.ok) c.in_default-added.ensures.added

-- where there is one, the child stands on the board
beside : (g : Over) (c : After-register g) (h : History)
    → StandsFor g.A.Accumulate.operation (core_of c.self.inside.registry c.use_slots.new.store.board) h
    → Joined g.A.Accumulate.operation c.add-added.new.self c.register.new.self
    (Registered c.args.parent c.args.child c.args.mode ∷ h)
beside g c h stands =
    let op = g.A.Accumulate.operation in
    let b = c.use_slots.new.store.board in
    let o = c.register.ensures in
    let held : holds c.in-Some.entry.mode c.args.mode ≡ true = search rules in
    registers_core op c.self.inside.registry c.add-added.new.self b c.register.new.self h
    c.args.parent c.args.child c.args.mode c.in-Some.entry stands
    (boarded_while c.use_slots.ensures.core c.waiters-waiters.ensures c.if-waiters-eq0.false)
    (accepted op c.self.inside.registry b.limits b.ring b.top h c.args.parent c.args.child c.args.mode
    c.in-Some.entry stands c.use_slots.ensures.core.used (sym c.in-Some.ensures.entry) held
    c.in_default-added.ensures.ok) c.in_default-added.ensures.added o.keeps.limits o.keeps.done
    o.keeps.top o.same o.standing o.invariant

pub invariant_of-self-then-waiters-eq0 : goal.invariant_of-self-then-waiters-eq0
invariant_of-self-then-waiters-eq0 g c =
    let i = c.use_slots.ensures.core in
    slots_phaser c.use_slots.ensures.slots (alone g (goal.at.invariant_of-self-then-waiters-eq0 g c).Then-waiters-eq0 i.history i.stands).holds

pub returns-then-waiters-eq0-clause-after : goal.returns-then-waiters-eq0-clause-after
returns-then-waiters-eq0-clause-after g c h given =
    rw c.use_slots.ensures.slots (alone g (goal.at.returns-then-waiters-eq0-clause-after g c).Then-waiters-eq0 h
    (rw (c.use_slots.ensures.shows ∙ c.self.view_is) given)).stands

pub register-requires-clause-stands : goal.register-requires-clause-stands
register-requires-clause-stands g c =
    let b = c.use_slots.new.store.board in
    let held : holds c.in-Some.entry.mode c.args.mode ≡ true = search rules in
    stands_beside g.A.Accumulate.operation c.self.inside.registry.members b.ring b.limits.bound b.done
    b.top c.args.parent c.args.mode c.in-Some.entry
    (boarded_while c.use_slots.ensures.core c.waiters-waiters.ensures c.if-waiters-eq0.false)
    (sym c.in-Some.ensures.entry) held

pub register-requires-clause-few : goal.register-requires-clause-few
register-requires-clause-few g c =
    let b = c.use_slots.new.store.board in
    room_for_one g.A.Accumulate.operation c.self.inside.registry b.ring b.limits.bound b.done b.top
    c.args.child (boarded_while c.use_slots.ensures.core c.waiters-waiters.ensures c.if-waiters-eq0.false)
    c.in_default-added.ensures.ok

pub invariant_of-self-2 : goal.invariant_of-self-2
invariant_of-self-2 g c =
    let i = c.use_slots.ensures.core in
    slots_phaser c.use_slots.ensures.slots (beside g (goal.at.invariant_of-self-2 g c).After-register i.history i.stands).holds

pub returns-clause-after : goal.returns-clause-after
returns-clause-after g c h given =
    rw c.use_slots.ensures.slots (beside g (goal.at.returns-clause-after g c).After-register h (rw (c.use_slots.ensures.shows ∙ c.self.view_is) given)).stands
