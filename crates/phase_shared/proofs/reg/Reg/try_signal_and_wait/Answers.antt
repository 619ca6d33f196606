use Rattle.std.proofs.Common.{◌≡◌, ℕ, Option, Some, None, true, false, refl, sym, subst}
use Rattle.std.specs.Prelude.{Result, IsErr}
use Rattle.phase_shared.specs.Phasers.{Entry, Parcel, Got, SignalRefusal, StandsForSends}
use Rattle.phase_history.specs.declared.refusal.SignalRefusal.TheVariants.{NoTask}
use Rattle.phase_shared.specs.declared.rule.Terms.{Terms}
use Rattle.phase_shared.specs.declared.tried.Tried.{Tried}
use Rattle.phase_shared.specs.Regs.{RegState, reg_state, phaser_terms}
use Rattle.phase_shared.specs.Calls.{IsTry, Tries, MaySignal}
use Rattle.turn_lock.specs.Seats.{IsSameSeat, seat_view}
use Rattle.phase_shared.specs.Views.{known_of}
use Rattle.phase_shared.specs.Steps.{IsStep}
use Rattle.phase_shared.specs.Entries.{entry_after_both}
use Rattle.phase_shared.specs.Nexts.{SignalsAndMayWait}
use Rattle.phase_shared.proofs.Opening.{opened, closed, is_try}
use Rattle.phase_shared.proofs.reg.Reg.try_signal_and_wait.Given.{Over}
use Rattle.phase_shared.proofs.reg.Reg.try_signal_and_wait.Goals.{After-signal-seat}
use Rattle.phase_shared.proofs.reg.Reg.try_signal_and_wait.Goals as goal

pub signal-seat-requires : goal.signal-seat-requires
signal-seat-requires g c =
    let o = opened g.K.SignalRule.allows c.args.phaser.now.locked c.self.inside.number c.self.inside.entry c.self.inside.pending c.self.inside.seat c.taken-seat.result c.args.self.now
    c.taken-seat.ensures c.self.invariant c.self.view_is c.requires.at in
    let P : RegState g.row.A.Denot g.row.K.Denot → Type 0 = λ r. MaySignal g.A.Accumulate.operation g.K.SignalRule.allows (phaser_terms c.args.phaser.now) r c.args.single in
    record {
      seat = o.seat;
      rule = λ h sends good others held. subst P (sym o.is) c.requires.rule h sends good others
          (subst (λ (p : Parcel g.row.A.Denot). StandsForSends g.A.Accumulate.operation p sends) c.sends.ensures held);
    }

pub invariant_of-self : goal.invariant_of-self
invariant_of-self g c = closed g.K.SignalRule.allows c.args.phaser.now.locked c.self.inside.number c.signal-seat.result.1 c.signal-seat.result.0 c.signal-seat.ensures.at

pub invariant_of-self-in-Err : goal.invariant_of-self-in-Err
invariant_of-self-in-Err g c = closed g.K.SignalRule.allows c.args.phaser.now.locked c.self.inside.number c.signal-seat.result.1 c.signal-seat.result.0 c.signal-seat.ensures.at

-- where a task stands after both, its mode is the same
mode_stays : (answer : Option (ℕ × Option Got)) (entry : Entry) → (entry_after_both answer entry).mode ≡ entry.mode
mode_stays None entry = refl
mode_stays (Some answer) entry = refl

module _ (g : Over) (c : After-signal-seat g) where
  abbrev terms : Terms g.row.K.Denot
  terms = phaser_terms c.args.phaser.now

  -- the registration after the step, where it holds this
  abbrev new : Parcel g.row.A.Denot → RegState g.row.A.Denot g.row.K.Denot
  new held = reg_state (Some c.signal-seat.result.0) c.self.inside.number c.signal-seat.result.1 held

  abbrev IsTried : Parcel g.row.A.Denot → Result (ℕ × Option Got) (Tried SignalRefusal) → Type 0
  IsTried held result =
      let old = c.args.self.now in
      IsTry g.K.SignalRule.allows terms NoTask entry_after_both (Tries (new held ≡ old)
      (SignalsAndMayWait c.args.waits g.A.Accumulate.operation terms.limits old.number old.held c.args.single old.seen (new held).seen) result)
      old (new held) result

  -- the step, of these sends
  abbrev IsStepOf : Parcel g.row.A.Denot → Type 0
  IsStepOf held = IsStep g.K.SignalRule.allows c.args.phaser.now.locked c.self.inside.number NoTask entry_after_both
      (Tries (IsSameSeat c.taken-seat.result c.signal-seat.result.0 × (c.signal-seat.result.1 ≡ c.self.inside.entry))
      (SignalsAndMayWait c.args.waits g.A.Accumulate.operation terms.limits c.self.inside.number held c.args.single
      (known_of (seat_view c.taken-seat.result)).seen (known_of (seat_view c.signal-seat.result.0)).seen) c.signal-seat.result.2)
      c.self.inside.entry c.signal-seat.result.1 c.taken-seat.result c.signal-seat.result.0 c.signal-seat.result.2

  tried : (held : Parcel g.row.A.Denot) → (IsErr c.signal-seat.result.2 → held ≡ c.self.inside.pending) → IsTried held c.signal-seat.result.2
  tried held stays =
      let inside = c.self.inside in
      is_try g.K.SignalRule.allows c.args.phaser.now.locked inside.number NoTask entry_after_both
      (λ old new answer. SignalsAndMayWait c.args.waits g.A.Accumulate.operation terms.limits old.number old.held c.args.single old.seen new answer)
      inside.entry c.signal-seat.result.1 inside.pending held c.taken-seat.result c.signal-seat.result.0 c.args.self.now c.signal-seat.result.2
      (opened g.K.SignalRule.allows c.args.phaser.now.locked c.self.inside.number c.self.inside.entry c.self.inside.pending c.self.inside.seat c.taken-seat.result c.args.self.now
      c.taken-seat.ensures c.self.invariant c.self.view_is c.requires.at)
      mode_stays stays (subst IsStepOf c.sends.ensures c.signal-seat.ensures)

pub returns-in-Ok-clause-call : goal.returns-in-Ok-clause-call
returns-in-Ok-clause-call g c =
    let after = (goal.at.returns-in-Ok-clause-call g c).After-signal-seat in
    subst (IsTried g after c.new-self-inside.result) c.in-Ok.is (tried g after c.new-self-inside.result (λ err. absurd (let z : false ≡ true = subst (λ r. IsErr r) c.in-Ok.is err in cc)))

pub returns-in-Err-clause-call : goal.returns-in-Err-clause-call
returns-in-Err-clause-call g c =
    let after = (goal.at.returns-in-Err-clause-call g c).After-signal-seat in
    subst (IsTried g after c.self.inside.pending) c.in-Err.is (tried g after c.self.inside.pending (λ err. refl))
