-- The only member goes on in both roles.
use Rattle.std.proofs.Common.{◌≡◌, Some, refl, sym, ◌∙◌, ap, arith}
use Rattle.phase_base.specs.Members.{entry_of, signalled}
use Rattle.phase_history.proofs.MemberLemmas.{entry_of-changed_same}
use Rattle.phase_history.proofs.Received.{none_from}
use Rattle.phase_registry.specs.Rosters.{Roster}
use Rattle.phase_core.specs.Cores.{StandsFor, core_of}
use Rattle.phase_core.proofs.Phasers.{slots_phaser}
use Rattle.phase_core.proofs.OnlyMember.{Alone, boarded, base_is, stands_alone, passes, core_passed, wait_below}
use Rattle.phase_core.proofs.phaser_core.PhaserCore.pass.Given.{Over}
use Rattle.phase_core.proofs.phaser_core.PhaserCore.pass.Goals.{After-part-part, After-signalled}
use Rattle.phase_core.proofs.phaser_core.PhaserCore.pass.Goals as goal

-- the only member, at a phase that no signal has joined
alone : (g : Over) (c : After-part-part g)
    → Alone g.A.Accumulate.operation c.self.inside.registry c.use_slots.new.store.board c.args.task c.in_ok-entry.entry c.args.pending.now c.args.single.now
alone g c =
    let sent = c.part-part.ensures.held in
    let few = sent.1.part_is.few in
    let below = c.if-phase-phases_max.false in
    record {
      met = record {
        core = c.use_slots.ensures.core;
        found = sym c.in_ok-entry.ensures.entry;
        few = c.in_ok-entry.ensures.few;
        slow = refl;
        first = sym (none_from c.block_refusal.result (sym c.is_some.ensures ∙ c.if-is_some.false)) ∙ c.block_refusal.ensures;
      };
      few = (let n = sent.1.count_is in omega arith);
      below = (let m = c.phases_max.ensures.value in omega arith);
      one = sym c.tasks.ensures ∙ c.if-tasks-ne1.false;
      waits = sym c.waits.ensures ∙ c.if-not-waits.false;
      level = c.if-entry-phase.false;
      fresh = c.if-self-phase.false;
    }

pub pass-outcome-requires-clause-invariant : goal.pass-outcome-requires-clause-invariant
pass-outcome-requires-clause-invariant g c = (boarded (alone g (goal.at.pass-outcome-requires-clause-invariant g c).After-part-part)).kept

pub pass-outcome-requires-clause-alone : goal.pass-outcome-requires-clause-alone
pass-outcome-requires-clause-alone g c = stands_alone (alone g (goal.at.pass-outcome-requires-clause-alone g c).After-part-part)

pub pass-outcome-requires-clause-fresh : goal.pass-outcome-requires-clause-fresh
pass-outcome-requires-clause-fresh g c =
    let a = alone g (goal.at.pass-outcome-requires-clause-fresh g c).After-part-part in
    a.fresh ∙ sym (base_is a)

-- its entry after the signal
signals : (g : Over) (c : After-signalled g) → entry_of c.signalled.new.self.members c.args.task ≡ Some (signalled 1 c.in_ok-entry.entry)
signals g c =
    let a = alone g (goal.at.After-signalled g c).After-part-part in
    ap (λ (r : Roster). entry_of r.members c.args.task) c.signalled.ensures
    ∙ entry_of-changed_same c.args.task (signalled 1) c.in_ok-entry.entry c.self.inside.registry.members a.met.found

pub waited-requires-clause-member : goal.waited-requires-clause-member
waited-requires-clause-member g c = rw (signals g (goal.at.waited-requires-clause-member g c).After-signalled) refl

pub waited-requires-clause-below : goal.waited-requires-clause-below
waited-requires-clause-below g c =
    let at = (goal.at.waited-requires-clause-below g c) in
    let a = alone g at.After-part-part in
    let level = a.level in
    let below = a.below in
    let most = c.phases_max.ensures.limits.phases_most in
    wait_below _ (signalled 1 c.in_ok-entry.entry) 1 (signals g at.After-signalled) (omega arith)

pub invariant_of-self-2 : goal.invariant_of-self-2
invariant_of-self-2 g c =
    let a = alone g (goal.at.invariant_of-self-2 g c).After-part-part in
    let o = c.pass-outcome.ensures in
    let sent = c.part-part.ensures.held in
    slots_phaser c.use_slots.ensures.slots (core_passed a g.met.A.Accumulate.laws c.check_single.ensures c.signalled.new.self c.waited.new.self c.pass-outcome.new.self c.pass-outcome.result
    c.signalled.ensures c.waited.ensures o.value o.passed sent.0 sent.1 o.invariant o.alone)

pub returns-clause-passed : goal.returns-clause-passed
returns-clause-passed g c h sends given holds =
    let a = alone g (goal.at.returns-clause-passed g c).After-part-part in
    let o = c.pass-outcome.ensures in
    let stands : StandsFor g.A.Accumulate.operation (core_of c.self.inside.registry c.use_slots.new.store.board) h = rw (c.use_slots.ensures.shows ∙ c.self.view_is) given in
    rw (← (c.use_slots.ensures.shows ∙ c.self.view_is)) (rw c.use_slots.ensures.slots (passes a g.met.A.Accumulate.laws c.check_single.ensures c.signalled.new.self c.waited.new.self c.pass-outcome.new.self c.pass-outcome.result
    c.signalled.ensures c.waited.ensures o.value o.passed h sends stands holds))
