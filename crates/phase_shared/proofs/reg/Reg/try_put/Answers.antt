-- The one send is the value, held before the signal.
use Rattle.std.proofs.Common.{[], ◌∷◌, sym, subst, ap, ◌∙◌, to_z-of_z}
use Rattle.std.specs.Result.{result_ok}
use Rattle.phase_shared.specs.Phasers.{StandsForSends, History, OnlyUsed}
use Rattle.phase_shared.specs.Regs.{phaser_terms}
use Rattle.phase_shared.specs.Entries.{entry_after_signal}
use Rattle.phase_shared.proofs.OneValue.{may_value, tries_value}
use Rattle.phase_shared.proofs.reg.Reg.try_put.Given.{Over}
use Rattle.phase_shared.proofs.reg.Reg.try_put.Goals.{In-Ok}
use Rattle.phase_shared.proofs.reg.Reg.try_put.Goals as goal

-- the value is held
held : (g : Over) (c : In-Ok g) → StandsForSends g.A.Accumulate.operation c.hold.new.self.held (c.args.value ∷ [])
held g c = subst (λ v. StandsForSends g.A.Accumulate.operation c.hold.new.self.held (v ∷ [])) (to_z-of_z c.ranges.value) c.in-Ok.ensures.held

pub try_signal-requires-clause-rule : goal.try_signal-requires-clause-rule
try_signal-requires-clause-rule g c =
    let same = c.hold.ensures.same in
    may_value g.A.Accumulate.operation g.K.SignalRule.allows (phaser_terms c.args.phaser.now) c.args.value c.args.single
    c.args.self.now c.hold.new.self same.1 same.3 g.met.A.Accumulate.laws (held g (goal.at.try_signal-requires-clause-rule g c).In-Ok) c.requires.rule

pub returns-clause-call : goal.returns-clause-call
returns-clause-call g c =
    let start = c.args.self.now in
    let now = c.hold.new.self in
    let same = c.hold.ensures.same in
    let t = c.try_signal.ensures.call in
    record {
      call = tries_value g.A.Accumulate.operation g.K.SignalRule.allows (phaser_terms c.args.phaser.now) c.args.value c.args.single
          start now same.1 same.3 g.met.A.Accumulate.laws (held g (goal.at.returns-clause-call g c).In-Ok) c.try_signal.new.self c.try_signal.result t.call;
      entry = t.entry ∙ ap (entry_after_signal (result_ok c.try_signal.result)) same.2;
      mode = t.mode ∙ ap (λ e. e.mode) same.2;
      at = (t.at.0 ∙ same.0, t.at.1 ∙ same.1);
      good = t.good;
      known = t.known;
      alone = λ only. t.alone (subst (λ (h : History). OnlyUsed (now.number ∷ []) h) (sym same.3)
          (subst (λ n. OnlyUsed (n ∷ []) start.seen) (sym same.1) only));
    }
