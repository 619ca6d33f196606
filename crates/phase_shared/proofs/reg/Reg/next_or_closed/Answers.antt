use Rattle.std.proofs.Common.{◌≡◌, ℕ, Ok, true, false, refl, sym, subst, ap, ◌∙◌}
use Rattle.phase_shared.specs.Phasers.{Entry, mode_signals, mode_waits}
use Rattle.phase_shared.specs.Regs.{phaser_limits}
use Rattle.phase_shared.specs.Calls.{Signals}
use Rattle.phase_shared.specs.Closings.{WaitsOrStops}
use Rattle.phase_shared.specs.Entries.{entry_after_wait}
use Rattle.phase_shared.proofs.NextSteps.{is_none, made, not_made, signalled_apart, waits_else}
use Rattle.phase_shared.proofs.StopSteps.{stops_made, stops_none}
use Rattle.phase_shared.proofs.reg.Reg.next_or_closed.Given.{Over}
use Rattle.phase_shared.proofs.reg.Reg.next_or_closed.Goals.{After-waits}
use Rattle.phase_shared.proofs.reg.Reg.next_or_closed.Goals as goal

-- a task that does not signal waits
pub returns-then-not-signals-clause-call : goal.returns-then-not-signals-clause-call
returns-then-not-signals-clause-call g c =
    let old = c.args.self.now in
    let new = c.get_or_closed-got.new.self in
    let limits = phaser_limits c.args.phaser.now in
    let op = g.A.Accumulate.operation in
    let got = c.get_or_closed-got.result in
    let w = c.get_or_closed-got.ensures in
    let silent : mode_signals old.entry.mode ≡ false = ap mode_signals (sym c.mode.ensures.value) ∙ sym c.signals.ensures ∙ c.if-not-signals.true in
    record {
      call = record {
        middle = old.seen;
        signals = not_made (mode_signals old.entry.mode) (λ (phase : ℕ). Signals op limits old.number old.held c.args.single old.seen old.seen (Ok phase))
            (old.seen ≡ old.seen) silent refl;
        waits = stops_made op.value limits old.number old.seen new.seen (mode_waits old.entry.mode) got (waits_else old.entry.mode silent) w.call;
        named = λ none. is_none c.args.single (sym c.is_some.ensures ∙ c.if-is_some.false);
      };
      entry = w.entry;
      mode = ap (λ (e : Entry). e.mode) w.entry;
      at = w.at;
      good = w.good;
      known = λ none. cc;
    }

-- whether a task signals and waits, by its mode
signals : (g : Over) (c : After-waits g) → mode_signals c.args.self.now.entry.mode ≡ true
signals g c = ap mode_signals (sym c.mode.ensures.value) ∙ sym c.signals.ensures ∙ c.if-not-signals.false

waits : (g : Over) (c : After-waits g) → c.waits.result ≡ mode_waits c.args.self.now.entry.mode
waits g c = c.waits.ensures ∙ ap mode_waits (c.mode-2.ensures.value ∙ c.in-Ok.ensures.call.mode)

-- a task that signals alone
pub returns-then-not-waits-clause-call : goal.returns-then-not-waits-clause-call
returns-then-not-waits-clause-call g c =
    let at = (goal.at.returns-then-not-waits-clause-call g c).After-waits in
    let old = c.args.self.now in
    let new = c.signal_or_closed.new.self in
    let limits = phaser_limits c.args.phaser.now in
    let op = g.A.Accumulate.operation in
    let t = c.in-Ok.ensures.call in
    record {
      call = record {
        middle = new.seen;
        signals = made (mode_signals old.entry.mode) (λ (phase : ℕ). Signals op limits old.number old.held c.args.single old.seen new.seen (Ok phase))
            (new.seen ≡ old.seen) c.in-Ok.phase (signals g at) t.call;
        waits = stops_none op.value limits old.number new.seen (mode_waits old.entry.mode) (sym (waits g at) ∙ c.if-not-waits.true);
        named = λ none. absurd (let z : true ≡ false = sym (signals g at) ∙ none in cc);
      };
      entry = t.entry;
      mode = t.mode;
      at = t.at;
      good = t.good;
      known = λ none. cc;
    }

-- after its signal it is ahead of its waits
pub get_or_closed-got-requires-2-clause-signalled : goal.get_or_closed-got-requires-2-clause-signalled
get_or_closed-got-requires-2-clause-signalled g c signals' same =
    let at = (goal.at.get_or_closed-got-requires-2-clause-signalled g c).After-waits in
    let old = c.args.self.now in
    let new = c.signal_or_closed.new.self in
    let t = c.in-Ok.ensures.call in
    let s = t.call in
    signalled_apart (phaser_limits c.args.phaser.now) old.number old.entry new.entry old.seen s.before new.seen c.args.single s.sends s.others s.seen
    t.good.legal c.mode.ensures.entry t.entry (signals g at) (sym (waits g at) ∙ c.if-not-waits.false) same

-- a task that does both
pub returns-clause-call : goal.returns-clause-call
returns-clause-call g c =
    let at = (goal.at.returns-clause-call g c).After-waits in
    let old = c.args.self.now in
    let middle = c.signal_or_closed.new.self in
    let new = c.get_or_closed-got-2.new.self in
    let limits = phaser_limits c.args.phaser.now in
    let op = g.A.Accumulate.operation in
    let got = c.get_or_closed-got-2.result in
    let t = c.in-Ok.ensures.call in
    let w = c.get_or_closed-got-2.ensures in
    record {
      call = record {
        middle = middle.seen;
        signals = made (mode_signals old.entry.mode) (λ (phase : ℕ). Signals op limits old.number old.held c.args.single old.seen middle.seen (Ok phase))
            (middle.seen ≡ old.seen) c.in-Ok.phase (signals g at) t.call;
        waits = stops_made op.value limits old.number middle.seen new.seen (mode_waits old.entry.mode) got (sym (waits g at) ∙ c.if-not-waits.false)
            (subst (λ n. WaitsOrStops true op.value limits n middle.seen new.seen got) t.at.1 w.call);
        named = λ none. absurd (let z : true ≡ false = sym (signals g at) ∙ none in cc);
      };
      entry = w.entry ∙ ap (λ (e : Entry). entry_after_wait got e) t.entry;
      mode = ap (λ (e : Entry). e.mode) w.entry ∙ t.mode;
      at = (w.at.0 ∙ t.at.0, w.at.1 ∙ t.at.1);
      good = w.good;
      known = λ none. cc;
    }
