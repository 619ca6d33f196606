-- They are all that the slot has.
use Rattle.std.proofs.Common.{sym, subst, ap, ap₂, ◌∙◌}
use Rattle.phase_accum.specs.Parcels.{parcel}
use Rattle.phase_ring.specs.Choices.{named_of}
use Rattle.phase_ring.specs.Slots.{Slot, joined, IsUnused}
use Rattle.phase_ring.proofs.Blocks.{joined_first}
use Rattle.phase_ring.proofs.slot.Slot.join_first.Goals as goal

pub returns-clause-value : goal.returns-clause-value
returns-clause-value g c =
    let op = g.A.Accumulate.operation in
    let U : Slot g.row.A.Denot → Type 0 = IsUnused op in
    let own = c.self.inside in
    let slot : Slot g.row.A.Denot = record { part = own.part; count = own.count; named = named_of own.choice own.ends; sealed = own.sealed; signallers = own.signallers; waiters = own.waiters } in
    let held = c.part-self-inside.ensures.held in
    let chosen = c.choice_for-choice in
    joined_first op slot c.args.pending.now c.args.single.now held.0 g.met.A.Accumulate.laws (subst U (sym c.self.view_is) c.requires) held.1
    c.part-self-inside.result c.count-self-inside.result (named_of chosen.result.0 chosen.result.1) c.part-self-inside.ensures.value c.count-self-inside.ensures.value chosen.ensures.named
    ∙ ap (joined op c.args.pending.now c.args.single.now) c.self.view_is

pub returns-clause-held : goal.returns-clause-held
returns-clause-held g c =
    let held = c.part-self-inside.ensures.held in
    (held.0, rw (ap₂ parcel (sym c.part-self-inside.ensures.value) (sym c.count-self-inside.ensures.value)) at held.1)
