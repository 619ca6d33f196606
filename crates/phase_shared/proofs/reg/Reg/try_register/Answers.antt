use Rattle.std.proofs.Common.{◌≡◌, ℕ, Some, refl, sym, subst, ◌∙◌, rules}
use Rattle.std.specs.Prelude.{Ok, Result}
use Rattle.turn_lock.specs.Seats.{seat_view, IsSameSeat}
use Rattle.phase_history.specs.declared.refusal.RegisterRefusal.TheVariants.{NoTask}
use Rattle.turn_lock.specs.declared.seat.Seat.{Seat}
use Rattle.phase_shared.specs.Phasers.{Entry, History, RegisterRefusal, CoreState}
use Rattle.phase_shared.specs.declared.rule.Terms.{Terms}
use Rattle.phase_shared.specs.declared.seats.view.View.{View}
use Rattle.phase_shared.specs.Views.{known_of}
use Rattle.phase_shared.specs.Steps.{RegistersSeat}
use Rattle.phase_shared.specs.Calls.{IsTry, Tries, Registers}
use Rattle.phase_shared.specs.Entries.{entry_stays}
use Rattle.phase_shared.specs.Regs.{RegState, reg_state, phaser_terms}
use Rattle.phase_shared.proofs.Opening.{opened, closed, same_reg, is_try_as, told_as, refused_as, same_refusal}
use Rattle.phase_shared.proofs.reg.Reg.try_register.Given.{Over}
use Rattle.phase_shared.proofs.reg.Reg.try_register.Goals.{After-register-seat}
use Rattle.phase_shared.proofs.reg.Reg.try_register.Goals as goal

pub register-seat-requires : goal.register-seat-requires
register-seat-requires g c =
    (opened g.K.SignalRule.allows c.args.phaser.now.locked c.self.inside.number c.self.inside.entry c.self.inside.pending c.self.inside.seat c.taken-seat.result c.args.self.now
    c.taken-seat.ensures c.self.invariant c.self.view_is c.requires.at).seat

pub invariant_of-self : goal.invariant_of-self
invariant_of-self g c = closed g.K.SignalRule.allows c.args.phaser.now.locked c.self.inside.number c.self.inside.entry c.register-seat.result.0 c.register-seat.ensures.at

pub invariant_of-self-2 : goal.invariant_of-self-2
invariant_of-self-2 g c = closed g.K.SignalRule.allows c.args.phaser.now.locked c.self.inside.number c.self.inside.entry c.register-seat.result.0 c.register-seat.ensures.at

pub invariant_of-result : goal.invariant_of-result
invariant_of-result g c =
    let made = c.in-Ok.made in
    let call = RegistersSeat g.K.SignalRule.allows c.args.phaser.now.locked c.self.inside.number c.args.mode c.self.inside.entry (known_of (seat_view c.taken-seat.result)).seen
    (known_of (seat_view c.register-seat.result.0)).seen in
    let child : call (Ok made) = subst (λ r. Tries (IsSameSeat c.taken-seat.result c.register-seat.result.0) call r) c.in-Ok.is c.register-seat.ensures.call in
    closed g.K.SignalRule.allows c.args.phaser.now.locked made.0 made.2 made.1 child.at

module _ (g : Over) (c : After-register-seat g) where
  abbrev new : RegState g.row.A.Denot g.row.K.Denot
  new = reg_state (Some c.register-seat.result.0) c.self.inside.number c.self.inside.entry c.self.inside.pending

  abbrev Answers : RegState g.row.A.Denot g.row.K.Denot → History → Result (ℕ × Seat (CoreState g.row.A.Denot) (Terms g.row.K.Denot) View × Entry) RegisterRefusal → Type 0
  Answers old seen answer = RegistersSeat g.K.SignalRule.allows c.args.phaser.now.locked old.number c.args.mode old.entry old.seen seen answer

  -- the call of a registration that this step is
  is_tried : IsTry g.K.SignalRule.allows (phaser_terms c.args.phaser.now) NoTask entry_stays
      (Tries (new ≡ c.args.self.now) (Answers c.args.self.now new.seen) c.register-seat.result.1) c.args.self.now new c.register-seat.result.1
  is_tried =
      let i = c.self.inside in
      is_try_as g.K.SignalRule.allows c.args.phaser.now.locked i.number NoTask entry_stays (IsSameSeat c.taken-seat.result c.register-seat.result.0)
      (λ r. new ≡ r) Answers i.entry i.entry i.pending i.pending c.taken-seat.result c.register-seat.result.0 c.args.self.now c.register-seat.result.1
      (opened g.K.SignalRule.allows c.args.phaser.now.locked c.self.inside.number c.self.inside.entry c.self.inside.pending c.self.inside.seat c.taken-seat.result c.args.self.now
      c.taken-seat.ensures c.self.invariant c.self.view_is c.requires.at)
      (λ answer e. refl) (λ err same. same_reg g.K.SignalRule.allows c.args.phaser.now.locked i.number i.entry i.entry i.pending i.pending
      c.taken-seat.result c.register-seat.result.0 same refl refl) c.register-seat.ensures

pub returns-clause-call : goal.returns-clause-call
returns-clause-call g c =
    let after = (goal.at.returns-clause-call g c).After-register-seat in
    let old = c.args.self.now in
    let t = is_tried g after in
    let child : Answers g after old (new g after).seen (Ok c.in-Ok.made) = subst (λ r. Tries (new g after ≡ old) (Answers g after old (new g after).seen) r) c.in-Ok.is t.call in
    told_as g.K.SignalRule.allows (phaser_terms c.args.phaser.now) NoTask _ _ old (new g after) c.register-seat.result.1 c.in-Ok.made _ c.in-Ok.is t (record {
      registered = child.registered;
      at = child.at.here ∙ sym c.requires.at;
      seen = child.seen;
      entry = child.start_is;
      none_held = search rules;
    })

pub returns-in-Err-clause-call : goal.returns-in-Err-clause-call
returns-in-Err-clause-call g c =
    let after = (goal.at.returns-in-Err-clause-call g c).After-register-seat in
    let old = c.args.self.now in
    let call = Answers g after old (new g after).seen in
    let t = is_tried g after in
    refused_as g.K.SignalRule.allows (phaser_terms c.args.phaser.now) NoTask _ _ old (new g after) c.register-seat.result.1 c.in-Err.tried c.in-Err.is t
    (same_refusal (new g after ≡ old) call (Registers g.A.Accumulate.operation c.args.mode old (new g after)) (λ refusal r. r) c.in-Err.tried
    (subst (λ r. Tries (new g after ≡ old) call r) c.in-Err.is t.call))
