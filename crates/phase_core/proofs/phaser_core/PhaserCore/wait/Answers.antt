-- While a waiter is registered, done is that of the history, and the phases are kept that a waiter
-- has still to get.
use Rattle.std.proofs.Common.{◌≡◌, ◌<◌, Some, None, sym, subst, ◌∙◌, arith}
use Rattle.std.specs.Prelude.{is_some}
use Rattle.phase_base.specs.Members.{signal_phases, least}
use Rattle.phase_history.proofs.InRange.{wait_reply-in_range}
use Rattle.phase_ring.specs.Stores.{board_shown}
use Rattle.phase_core.specs.Cores.{CoreState, StandsFor}
use Rattle.phase_core.specs.PlainCores.{core_shown}
use Rattle.phase_core.proofs.Phasers.{phaser_shows}
use Rattle.phase_core.proofs.WaitCore.{waits_ended, waits_value}
use Rattle.phase_core.proofs.Waits.{Awaits, here, is_store, may_get, may_go_on, one_replied, phaser_after, stands_after}
use Rattle.phase_core.proofs.phaser_core.PhaserCore.wait.Given.{Over}
use Rattle.phase_core.proofs.phaser_core.PhaserCore.wait.Goals.{After-wait_refusal}
use Rattle.phase_core.proofs.phaser_core.PhaserCore.wait.Goals as goal

-- the member that waits
awaits : (g : Over) (c : After-wait_refusal g)
    → Awaits g.A.Accumulate.operation c.self.inside.registry c.self.inside.store c.args.task
    c.in-Some.entry c.has_signaller-has_signaller.result
awaits g c = record {
  phaser = c.self.invariant;
  found = sym c.in-Some.ensures.entry;
  few = c.in-Some.ensures.few;
  waits = sym c.waits.ensures ∙ c.if-not-waits.false;
  has = subst (λ (k : CoreState g.row.A.Denot). c.has_signaller-has_signaller.result
      ≡ is_some (least (signal_phases k.members))) (sym c.self.view_is)
      c.has_signaller-has_signaller.ensures;
}

pub returns-in-Some-wait_refusal-clause-reply : goal.returns-in-Some-wait_refusal-clause-reply
returns-in-Some-wait_refusal-clause-reply g c h given =
    let m = awaits g (goal.at.returns-in-Some-wait_refusal-clause-reply g c).After-wait_refusal in
    rw (← c.self.view_is) (one_replied m h (Some c.in-Some-wait_refusal.refusal)
    (rw c.self.view_is given) c.in-Some-wait_refusal.ensures).1

pub returns-then-done-phase-clause-reply : goal.returns-then-done-phase-clause-reply
returns-then-done-phase-clause-reply g c h given =
    let op = g.A.Accumulate.operation in
    let reg = c.self.inside.registry in
    let store = c.self.inside.store in
    let m = awaits g (goal.at.returns-then-done-phase-clause-reply g c).After-wait_refusal in
    let stands : StandsFor op (core_shown op reg store) h = rw c.self.view_is given in
    rw (← c.self.view_is) (waits_ended op reg (board_shown op store) h c.args.task c.in-Some.entry (here m)
    stands c.if-done-phase.true (one_replied m h None stands c.in_default-wait_refusal.ensures).1)

pub wait-outcome-requires : goal.wait-outcome-requires
wait-outcome-requires g c =
    let m = awaits g (goal.at.wait-outcome-requires g c).After-wait_refusal in
    let before : c.in-Some.entry.wait_phase < c.self.inside.store.board.done = c.if-done-phase.false in
    record { invariant = is_store m; may = may_get m 1 (omega arith) (omega arith) }

pub go_on-requires : goal.go_on-requires
go_on-requires g c =
    let m = awaits g (goal.at.go_on-requires g c).After-wait_refusal in
    let before : c.in-Some.entry.wait_phase < c.self.inside.store.board.done = c.if-done-phase.false in
    may_go_on m c.wait-outcome.new.self 1 (omega arith) c.wait-outcome.ensures.got

pub invariant_of-self : goal.invariant_of-self
invariant_of-self g c =
    let op = g.A.Accumulate.operation in
    let m = awaits g (goal.at.invariant_of-self g c).After-wait_refusal in
    let before : c.in-Some.entry.wait_phase < c.self.inside.store.board.done = c.if-done-phase.false in
    phaser_after m c.wait-outcome.new.self 1 (omega arith) c.wait-outcome.ensures.got
    c.go_on.new.registry c.go_on.new.store c.go_on.ensures
    (λ h stands. (one_replied m h None stands c.in_default-wait_refusal.ensures).0)

pub returns-clause-reply : goal.returns-clause-reply
returns-clause-reply g c h given =
    let op = g.A.Accumulate.operation in
    let reg = c.self.inside.registry in
    let store = c.self.inside.store in
    let m = awaits g (goal.at.returns-clause-reply g c).After-wait_refusal in
    let stands : StandsFor op (core_shown op reg store) h = rw c.self.view_is given in
    rw (← c.self.view_is) (waits_value op g.met.A.Accumulate.laws reg (board_shown op store) h c.args.task
    c.in-Some.entry c.wait-outcome.result (here m) stands c.if-done-phase.false
    c.wait-outcome.ensures.value (one_replied m h None stands c.in_default-wait_refusal.ensures).1)

pub returns-clause-after : goal.returns-clause-after
returns-clause-after g c h given =
    let op = g.A.Accumulate.operation in
    let m = awaits g (goal.at.returns-clause-after g c).After-wait_refusal in
    let before : c.in-Some.entry.wait_phase < c.self.inside.store.board.done = c.if-done-phase.false in
    let stands : StandsFor op (core_shown op c.self.inside.registry c.self.inside.store) h =
    rw c.self.view_is given in
    stands_after m c.wait-outcome.new.self 1 (omega arith) c.wait-outcome.ensures.got
    c.go_on.new.registry c.go_on.new.store c.go_on.ensures h stands
    (one_replied m h None stands c.in_default-wait_refusal.ensures).0

-- what it answers is a value of some legal history
pub returns-clause-range : goal.returns-clause-range
returns-clause-range g c phase outcome is =
    let op = g.A.Accumulate.operation in
    let shows = phaser_shows op c.self.inside.registry c.self.inside.store c.self.invariant in
    let stands : StandsFor op c.args.self.now shows.history = rw (← c.self.view_is) shows.stands in
    wait_reply-in_range op g.met.A.Accumulate.laws c.args.self.now.limits shows.history c.args.task
    phase outcome stands.legal (returns-clause-reply g c shows.history stands ∙ is)
