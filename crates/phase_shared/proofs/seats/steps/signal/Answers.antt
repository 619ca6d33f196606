use Rattle.std.proofs.Common.{◌≡◌, ℤ, List, [], ◌∷◌, Err, true, false, sym, subst, ap, refl, ◌∙◌, rules}
use Rattle.std.specs.Prelude.{is_some}
use Rattle.phase_shared.specs.LockedPhasers.{locked_terms}
use Rattle.turn_lock.specs.Seats.{seat_view, turn_view, turn_value, turn_number, turn_told}
use Rattle.phase_history.specs.declared.event.Event.TheVariants.{Signalled}
use Rattle.phase_shared.specs.Phasers.{History, signal_phase, CoreState, signal_reply, wait_reply, after_wait, StandsForSends, signal_refusal, signalled}
use Rattle.phase_shared.specs.Views.{resting, known_of, speaks_of}
use Rattle.phase_shared.specs.Rule.{StandsWithin}
use Rattle.phase_shared.specs.declared.seats.view.View.{View}
use Rattle.phase_history.specs.declared.refusal.SignalRefusal.TheVariants as signal
use Rattle.phase_history.proofs.Answered.{signal_refusal-never}
use Rattle.phase_shared.proofs.Answering.{refused_is}
use Rattle.phase_shared.proofs.Giving.{AfterCall, after_call, gives_own, gives_same, own_none, own_event, station, stays, lent, told_entry}
use Rattle.std.specs.Result.{result_ok}
use Rattle.phase_shared.specs.Entries.{entry_after_wait}
use Rattle.phase_shared.proofs.SignalSteps.{member_signals, member_signals_and_waits}
use Rattle.phase_shared.proofs.WaitSteps.{own_wait, keeps_wait, member_after_wait, may_wait}
use Rattle.phase_shared.proofs.seats.steps.signal.Given.{Over}
use Rattle.phase_shared.proofs.seats.steps.signal.Goals.{In-Ok-answer}
use Rattle.phase_shared.proofs.seats.steps.signal.Goals as goal

-- the phaser under the turn stood for what was seen
stood : (g : Over) (c : In-Ok-answer g)
    → StandsWithin g.A.Accumulate.operation (locked_terms c.args.phaser.now).limits c.value_in-core.result.now c.in-Ok.ensures.turn.knows.now
stood g c =
    lent g.A.Accumulate.operation g.K.SignalRule.allows (locked_terms c.args.phaser.now) c.args.me (turn_value c.in-Ok.turn) c.value_in-core.result.now
    c.in-Ok.ensures.turn.knows.now c.value_in-core.ensures.value c.in-Ok.ensures.turn.knows.stands

-- what the signal of these sends, and the wait, leave there
left : (g : Over) (c : In-Ok-answer g) (sends : List ℤ) → StandsForSends g.A.Accumulate.operation c.args.pending sends
    → AfterCall g.A.Accumulate.operation g.K.SignalRule.allows (locked_terms c.args.phaser.now) c.args.me
    (after_wait c.in-Ok-answer.answer.1 c.args.me (Signalled c.args.me (sends ∷ []) c.args.single ∷ c.in-Ok.ensures.turn.knows.now)) c.signal_where-answer.new.core
left g c sends held =
    let terms = locked_terms c.args.phaser.now in
    let e = c.in-Ok.ensures.turn.knows in
    let waited = c.in-Ok-answer.answer.1 in
    let middle : History = Signalled c.args.me (sends ∷ []) c.args.single ∷ e.now in
    after_call g.A.Accumulate.operation g.K.SignalRule.allows terms c.args.me e.now (after_wait waited c.args.me middle) c.value_in-core.result.now
    c.signal_where-answer.new.core (stood g c) c.in-Ok-answer.ensures.limits
    (c.in-Ok-answer.ensures.after e.now sends (stood g c).stands held)
    (keeps_wait (g.K.SignalRule.allows terms.rule) c.args.me middle waited (c.requires.rule e.now sends e.good e.others held, e.good.keeps))

pub unreachable-requires : goal.unreachable-requires
unreachable-requires g c =
    let op = g.A.Accumulate.operation in
    let e = c.in-Ok.ensures.turn.knows in
    let held = c.part-part.ensures.held in
    let waited = c.in-Ok-answer.answer.1 in
    let new = c.signal_where-answer.new.core in
    let middle : History = Signalled c.args.me (held.0 ∷ []) c.args.single ∷ e.now in
    let s = left g (goal.at.unreachable-requires g c).In-Ok-answer held.0 held.1 in
    let some : is_some c.view.result ≡ true = ap (λ o. is_some o) c.view.ensures ∙ member_after_wait op new waited c.args.me middle
    s.stands.stands (member_signals c.args.me held.0 c.args.single e.now (ap (λ o. is_some o) e.member)) in
    absurd (let z : false ≡ true = sym (ap (λ o. is_some o) c.in_default.is) ∙ some in cc)

pub put_back-seat-requires-clause-rule : goal.put_back-seat-requires-clause-rule
put_back-seat-requires-clause-rule g c =
    let op = g.A.Accumulate.operation in
    let allows = g.K.SignalRule.allows in
    let terms = locked_terms c.args.phaser.now in
    let turn = c.in-Ok.turn in
    let e = c.in-Ok.ensures.turn.knows in
    let held = c.part-part.ensures.held in
    let waited = c.in-Ok-answer.answer.1 in
    let new = c.signal_where-answer.new.core in
    let middle : History = Signalled c.args.me (held.0 ∷ []) c.args.single ∷ e.now in
    let s = left g (goal.at.put_back-seat-requires-clause-rule g c).In-Ok-answer held.0 held.1 in
    gives_own op allows terms c.args.me
    (λ v w. (sends : List ℤ) × StandsForSends op c.args.pending sends
    × (w ≡ resting (after_wait waited c.args.me (Signalled c.args.me (sends ∷ []) c.args.single ∷ (known_of v).seen)) (speaks_of v)))
    (turn_number turn) (turn_told turn) new (turn_view turn) e.now (after_wait waited c.args.me middle) e.claims e.said e.is e.used
    (own_wait c.args.me e.now middle waited
    (own_event c.args.me e.now e.now (Signalled c.args.me (held.0 ∷ []) c.args.single) (λ t. refl) (own_none c.args.me e.now)))
    s.good s.stands (held.0, held.1, refl)

pub give_same-seat-requires-clause-rule : goal.give_same-seat-requires-clause-rule
give_same-seat-requires-clause-rule g c =
    let op = g.A.Accumulate.operation in
    let allows = g.K.SignalRule.allows in
    let terms = locked_terms c.args.phaser.now in
    let turn = c.in-Ok.turn in
    let e = c.in-Ok.ensures.turn.knows in
    let old = c.value_in-core.result.now in
    let before : StandsWithin op terms.limits old e.now = lent op allows terms c.args.me (turn_value turn) old e.now c.value_in-core.ensures.value e.stands in
    let after : StandsWithin op terms.limits c.signal_where-answer.new.core e.now = subst (λ (z : CoreState g.row.A.Denot). StandsWithin op terms.limits z e.now) (sym c.in-Err-answer.ensures.err) before in
    gives_same op allows terms c.args.me (turn_number turn) (turn_told turn) c.args.entry (seat_view c.args.seat) (turn_value turn) c.signal_where-answer.new.core
    (turn_view turn) e after

pub returns : goal.returns
returns g c =
    let op = g.A.Accumulate.operation in
    let allows = g.K.SignalRule.allows in
    let terms = locked_terms c.args.phaser.now in
    let e = c.in-Ok.ensures.turn.knows in
    let after = (goal.at.returns g c).In-Ok-answer in
    let before = stood g after in
    let told = c.put_back-seat.ensures.knows in
    let waited = c.in-Ok-answer.answer.1 in
    let new = c.signal_where-answer.new.core in
    let middle : History = Signalled c.args.me (told.0 ∷ []) c.args.single ∷ e.now in
    let s = left g after told.0 told.1 in
    let view : seat_view c.put_back-seat.result ≡ resting (after_wait waited c.args.me middle) (c.args.me ∷ []) =
    told.2 ∙ ap (λ (v : View). resting (after_wait waited c.args.me (Signalled c.args.me (told.0 ∷ []) c.args.single ∷ (known_of v).seen)) (speaks_of v)) e.is in
    let last : History = (known_of (seat_view c.put_back-seat.result)).seen in
    let seen : last ≡ after_wait waited c.args.me middle = ap (λ (v : View). (known_of v).seen) view in
    let limits = before.limits_are in
    record {
      call = record {
        middle = middle;
        signals = record {
          before = e.now;
          sends = told.0;
          others = e.others;
          stands = told.1;
          seen = refl;
          reply = λ sends held. ap (λ l. signal_reply l e.now c.args.me (sends ∷ []) c.args.single) (sym before.limits_are)
              ∙ c.in-Ok-answer.ensures.signalled e.now sends before.stands held;
        };
        waits = rw c.ok.ensures.value (may_wait c.args.waits op.value terms.limits c.args.me middle last waited seen
            (λ asked. ap (λ l. wait_reply op.value l middle c.args.me) (sym limits)
            ∙ c.in-Ok-answer.ensures.waited e.now told.0 before.stands told.1 asked)
            c.in-Ok-answer.ensures.none);
      };
      at = record {
        here = c.put_back-seat.ensures.here;
        knows = station op allows terms c.args.me c.in-Some.entry (seat_view c.put_back-seat.result) (after_wait waited c.args.me middle) new c.view.result
            view s.good s.stands c.view.ensures c.in-Some.is;
      };
      entry_is = told_entry op allows terms c.args.me c.in-Some.entry (entry_after_wait (result_ok waited) (signalled 1 c.args.entry))
          (after_wait waited c.args.me middle) new c.view.result s.stands c.view.ensures c.in-Some.is
          (member_signals_and_waits c.args.me told.0 c.args.single e.now c.args.entry waited e.member)
          ∙ ap (λ got. entry_after_wait got (signalled 1 c.args.entry)) (sym c.ok.ensures.value);
      known = search rules;
      alone = search rules;
    }

-- the turn was another's
pub returns-in-Err : goal.returns-in-Err
returns-in-Err g c = record {
  call = (c.in-Err.ensures.err, refl);
  at = c.in-Err.ensures.still;
  entry_is = refl;
  known = search rules;
  alone = λ only. absurd (let z : false ≡ true = c.in-Err.ensures.alone only in cc);
}

pub returns-in-Err-answer : goal.returns-in-Err-answer
returns-in-Err-answer g c =
    let op = g.A.Accumulate.operation in
    let allows = g.K.SignalRule.allows in
    let terms = locked_terms c.args.phaser.now in
    let turn = c.in-Ok.turn in
    let e = c.in-Ok.ensures.turn.knows in
    let old = c.value_in-core.result.now in
    let before : StandsWithin op terms.limits old e.now = lent op allows terms c.args.me (turn_value turn) old e.now c.value_in-core.ensures.value e.stands in
    let held = c.part-part.ensures.held in
    let view : seat_view c.give_same-seat.result ≡ resting e.now (c.args.me ∷ []) =
    c.give_same-seat.ensures.knows ∙ ap (λ (v : View). resting (known_of v).seen (speaks_of v)) e.is in
    record {
      call = record {
        before = e.now;
        sends = held.0;
        others = e.others;
        stands = held.1;
        seen = ap (λ (v : View). (known_of v).seen) view;
        reply = λ sends stands. ap (λ l. signal_reply l e.now c.args.me (sends ∷ []) c.args.single) (sym before.limits_are)
            ∙ c.in-Err-answer.ensures.refused e.now sends before.stands stands;
      };
      at = record { here = c.give_same-seat.ensures.here; knows = stays op allows terms c.args.me c.args.entry (seat_view c.give_same-seat.result) e.now view e.good e.member };
      entry_is = refl;
      -- the task is registered
      known = λ none.
          let is : c.in-Err-answer.refused.0 ≡ signal.NoTask = cc in
          signal_refusal-never old.limits e.now c.args.me (held.0 ∷ []) c.args.single (ap is_some e.member)
          (refused_is (signal_refusal old.limits e.now c.args.me (held.0 ∷ []) c.args.single) (signal_phase e.now c.args.me) signal.NoTask
          (c.in-Err-answer.ensures.refused e.now held.0 before.stands held.1 ∙ ap Err is));
      alone = search rules;
    }
