use Rattle.std.proofs.Common.{◌≡◌, ℕ, Some, Ok, true, false, sym, subst, ap, refl, ◌∙◌, rules}
use Rattle.std.specs.Prelude.{is_some}
use Rattle.phase_shared.specs.Phasers.{Entry, mode_signals, mode_waits, entry_of, signalled, Got, History, members_of, IsLegal, Limits}
use Rattle.phase_shared.specs.Regs.{RegState, phaser_limits, phaser_terms}
use Rattle.phase_history.specs.declared.refusal.SignalRefusal.TheVariants.{NoTask}
use Rattle.phase_shared.specs.Calls.{IsCall, Signals, Waits}
use Rattle.phase_shared.specs.Entries.{entry_after_next}
use Rattle.phase_shared.specs.Nexts.{GoesOrRefuses, SignalsAndMayWait, HasSignalledAndMayWait}
use Rattle.phase_shared.proofs.NextSteps.{signalled_member, signalled_apart, made, MadeWait, not_asked, answered, unanswered}
use Rattle.phase_shared.proofs.reg.Reg.next_by_turns.Given.{Over}
use Rattle.phase_shared.proofs.reg.Reg.next_by_turns.Goals.{After-mode-mode, then-not-waits-via-then-not-waits, then-not-waits-via-else-not-waits+then-is_some}
use Rattle.phase_shared.proofs.reg.Reg.next_by_turns.Goals as goal

-- a task that signals alone, or gets its value at once
pub returns-then-not-waits-clause-call : goal.returns-then-not-waits-clause-call
returns-then-not-waits-clause-call g c =
    let old = c.args.self.now in
    let new = c.signal_and_wait.new.self in
    let limits = phaser_limits c.args.phaser.now in
    let op = g.A.Accumulate.operation in
    let asked = c.waits-waits.result in
    let phase = c.in-Ok.answer.0 in
    let got = c.in-Ok.answer.1 in
    let both : HasSignalledAndMayWait asked op limits old.number old.held c.args.single old.seen new.seen c.in-Ok.answer =
    subst (λ r. SignalsAndMayWait asked op limits old.number old.held c.args.single old.seen new.seen r) c.in-Ok.is c.signal_and_wait.ensures.call.call in
    let signals : mode_signals old.entry.mode ≡ true = c.requires.signals in
    let waits : asked ≡ mode_waits old.entry.mode = c.waits-waits.ensures ∙ ap mode_waits c.mode.ensures.value in
    subst (λ (r : RegState g.row.A.Denot g.row.K.Denot). IsCall g.K.SignalRule.allows (phaser_terms c.args.phaser.now) NoTask entry_after_next
    (GoesOrRefuses op limits c.args.single old r.seen (Ok (record { signalled = Some phase; got = got }))) old r
    (Ok (record { signalled = Some phase; got = got }))) refl
    (record {
      call = record {
        middle = both.middle;
        signals = made (mode_signals old.entry.mode) (λ (phase : ℕ). Signals op limits old.number old.held c.args.single old.seen both.middle (Ok phase))
            (both.middle ≡ old.seen) phase signals both.signals;
        waits = subst (λ b. MadeWait op.value limits old.number both.middle new.seen b got) waits
            (elim c.then-not-waits.branch [
              | then-not-waits-via-then-not-waits w ↦ not_asked op.value limits old.number both.middle new.seen asked got w.if-not-waits.true both.waits
              | then-not-waits-via-else-not-waits+then-is_some w ↦ answered op.value limits old.number both.middle new.seen asked got
                  (sym w.is_some.ensures ∙ w.if-is_some.true) both.waits
            ]);
        named = λ none. absurd (let z : true ≡ false = sym signals ∙ none in cc);
      };
      entry = search rules;
      mode = search rules;
      at = search rules;
      good = search rules;
      known = search rules;
    })

-- a task that has signalled, and has no value yet
module _ (g : Over) (c : After-mode-mode g) where
  abbrev old : RegState g.row.A.Denot g.row.K.Denot
  old = c.args.self.now

  abbrev new : RegState g.row.A.Denot g.row.K.Denot
  new = c.signal_and_wait.new.self

  same : new ≡ c.signal_and_wait.new.self
  same = refl

  number_is : new.number ≡ old.number
  number_is = ap (λ (r : RegState g.row.A.Denot g.row.K.Denot). r.number) same ∙ c.signal_and_wait.ensures.call.at.1

  abbrev limits : Limits
  limits = phaser_limits c.args.phaser.now

  legal : IsLegal limits new.seen
  legal = subst (λ (r : RegState g.row.A.Denot g.row.K.Denot). IsLegal limits r.seen) (sym same) c.signal_and_wait.ensures.call.good.legal

  signals : mode_signals c.args.self.now.entry.mode ≡ true
  signals = c.requires.signals

  waits : mode_waits c.args.self.now.entry.mode ≡ true
  waits = sym (c.waits-waits.ensures ∙ ap mode_waits c.mode.ensures.value) ∙ c.if-not-waits.false

  signal : Signals g.A.Accumulate.operation limits old.number old.held c.args.single old.seen new.seen (Ok c.in-Ok.answer.0)
  signal =
      let op = g.A.Accumulate.operation in
      let asked = c.waits-waits.result in
      let middle = c.signal_and_wait.new.self.seen in
      let here : HasSignalledAndMayWait asked op limits old.number old.held c.args.single old.seen middle c.in-Ok.answer =
      subst (λ r. SignalsAndMayWait asked op limits old.number old.held c.args.single old.seen middle r) c.in-Ok.is c.signal_and_wait.ensures.call.call in
      let both : HasSignalledAndMayWait asked op limits old.number old.held c.args.single old.seen new.seen c.in-Ok.answer =
      subst (λ (r : RegState g.row.A.Denot g.row.K.Denot).
      HasSignalledAndMayWait asked op limits old.number old.held c.args.single old.seen r.seen c.in-Ok.answer) (sym same) here in
      let none : is_some c.in-Ok.answer.1 ≡ false = sym c.is_some.ensures ∙ c.if-is_some.false in
      let last : new.seen ≡ both.middle = unanswered op.value limits old.number both.middle new.seen asked c.in-Ok.answer.1 none both.waits in
      subst (λ (h : History). Signals op limits old.number old.held c.args.single old.seen h (Ok c.in-Ok.answer.0)) (sym last) both.signals

  entry_is : new.entry ≡ signalled 1 old.entry
  entry_is =
      let there : entry_of (members_of new.seen) old.number ≡ Some new.entry =
      subst (λ n. entry_of (members_of new.seen) n ≡ Some new.entry) number_is c.mode-mode.ensures.entry in
      signalled_member limits old.number old.entry new.entry old.seen signal.before new.seen c.args.single signal.sends signal.others signal.seen
      legal c.mode.ensures.entry there

-- a task that waits is one after its signal
pub wait_in_turn-got-requires-clause-waits : goal.wait_in_turn-got-requires-clause-waits
wait_in_turn-got-requires-clause-waits g c =
    let at = (goal.at.wait_in_turn-got-requires-clause-waits g c).After-mode-mode in
    ap (λ (e : Entry). mode_waits e.mode) (entry_is g at) ∙ waits g at

-- it has signalled
pub wait_in_turn-got-requires-clause-signalled : goal.wait_in_turn-got-requires-clause-signalled
wait_in_turn-got-requires-clause-signalled g c signals' same =
    let at = (goal.at.wait_in_turn-got-requires-clause-signalled g c).After-mode-mode in
    let s = signal g at in
    signalled_apart (limits g at) c.args.self.now.number c.args.self.now.entry c.signal_and_wait.new.self.entry c.args.self.now.seen s.before
    c.signal_and_wait.new.self.seen c.args.single s.sends s.others s.seen (legal g at) c.mode.ensures.entry (entry_is g at)
    (signals g at) (waits g at) same

-- a task that gets its value later
pub returns-clause-call : goal.returns-clause-call
returns-clause-call g c =
    let at = (goal.at.returns-clause-call g c).After-mode-mode in
    let old = c.args.self.now in
    let new = c.signal_and_wait.new.self in
    let limits = phaser_limits c.args.phaser.now in
    let op = g.A.Accumulate.operation in
    let last = c.wait_in_turn-got.new.self.seen in
    let got = c.wait_in_turn-got.result in
    record {
      call = record {
        middle = new.seen;
        signals = made (mode_signals old.entry.mode) (λ (phase : ℕ). Signals op limits old.number old.held c.args.single old.seen new.seen (Ok phase))
            (new.seen ≡ old.seen) c.in-Ok.answer.0 (signals g at) (signal g at);
        waits = made (mode_waits old.entry.mode) (λ (got : Got). Waits op.value limits old.number new.seen last (Ok got)) (last ≡ new.seen) got
            (waits g at)
            (subst (λ n. Waits op.value limits n new.seen last (Ok got)) (number_is g at) c.wait_in_turn-got.ensures.call);
        named = λ none. absurd (let z : true ≡ false = sym (signals g at) ∙ none in cc);
      };
      entry = search rules;
      mode = search rules;
      at = search rules;
      good = search rules;
      known = search rules;
    }
