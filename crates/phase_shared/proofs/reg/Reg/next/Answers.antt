use Rattle.std.proofs.Common.{◌≡◌, ℕ, Ok, true, false, sym, ap, refl, ◌∙◌, rules}
use Rattle.phase_shared.specs.Phasers.{mode_signals, mode_waits, Got}
use Rattle.phase_shared.specs.Regs.{phaser_limits}
use Rattle.phase_shared.specs.Calls.{Signals, Waits}
use Rattle.phase_shared.proofs.NextSteps.{waits_else, made, not_made, is_none}
use Rattle.phase_shared.proofs.reg.Reg.next.Goals as goal

-- a task that does not signal waits
pub returns-then-not-signals-clause-call : goal.returns-then-not-signals-clause-call
returns-then-not-signals-clause-call g c =
    let old = c.args.self.now in
    let new = c.wait_in_turn-got.new.self.seen in
    let limits = phaser_limits c.args.phaser.now in
    let op = g.A.Accumulate.operation in
    let silent : mode_signals old.entry.mode ≡ false = ap mode_signals (sym c.mode.ensures.value) ∙ sym c.signals.ensures ∙ c.if-not-signals.true in
    record {
      call = record {
        middle = old.seen;
        signals = not_made (mode_signals old.entry.mode) (λ (phase : ℕ). Signals op limits old.number old.held c.args.single old.seen old.seen (Ok phase))
            (old.seen ≡ old.seen) silent refl;
        waits = made (mode_waits old.entry.mode) (λ (got : Got). Waits op.value limits old.number old.seen new (Ok got)) (new ≡ old.seen)
            c.wait_in_turn-got.result (waits_else old.entry.mode silent) c.wait_in_turn-got.ensures.call;
        named = λ none. is_none c.args.single (sym c.is_some.ensures ∙ c.if-is_some.false);
      };
      entry = search rules;
      mode = search rules;
      at = search rules;
      good = search rules;
      known = search rules;
    }

pub wait_in_turn-got-requires-clause-signalled : goal.wait_in_turn-got-requires-clause-signalled
wait_in_turn-got-requires-clause-signalled g c signals' same =
    absurd (let z : true ≡ false = sym signals' ∙ ap mode_signals (sym c.mode.ensures.value) ∙ sym c.signals.ensures ∙ c.if-not-signals.true in cc)
