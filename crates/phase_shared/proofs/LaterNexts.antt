-- A next phase after others' events is one from the start.
use Rattle.std.proofs.Common.{◌≡◌, ℕ, Bool, true, false, [], ◌∷◌, Option, Some, None, sym, ap, subst, ◌∙◌}
use Rattle.std.specs.Prelude.{Ok, Err, Result}
use Rattle.std.specs.Result.{result_ok}
use Rattle.phase_shared.specs.Phasers.{mode_signals, mode_waits, Entry, Operation, Single, Got, SignalRefusal, History, OthersCame}
use Rattle.phase_history.specs.declared.refusal.SignalRefusal.TheVariants.{NoTask}
use Rattle.phase_history.proofs.OthersEvents.{OthersCame-trans}
use Rattle.phase_shared.specs.declared.next.Next.{Next}
use Rattle.phase_shared.specs.declared.rule.Terms.{Terms}
use Rattle.phase_shared.specs.Calls.{IsCall, Signals, Waits}
use Rattle.phase_shared.specs.Entries.{entry_after_next}
use Rattle.phase_shared.specs.Nexts.{GoesOrRefuses, MadeWhere, RefusesNext}
use Rattle.phase_shared.specs.Regs.{RegState}
use Rattle.phase_shared.specs.Rule.{Allows}
use Rattle.phase_shared.proofs.Later.{HasWaited, signals_later}

-- a call that is made, told of in another way
made_as : {X : Type 0} (can can' : Bool) (call call' : X → Type 0) (nothing nothing' : Type 0) (answer : Option X) → can ≡ true → can' ≡ true
    → ((x : X) → call x → call' x) → MadeWhere can call nothing answer → MadeWhere can' call' nothing' answer
made_as false can' call call' nothing nothing' answer yes' yes'' told m = absurd (cc)
made_as true false call call' nothing nothing' answer yes' yes'' told m = absurd (cc)
made_as true true call call' nothing nothing' None yes' yes'' told m = m
made_as true true call call' nothing nothing' (Some x) yes' yes'' told m = told x m

module _ {A K : Type 0} (op : Operation A) (terms : Terms K) (single : Option Single) (old now : RegState A K) (i : HasWaited old now)
    (signals : mode_signals old.entry.mode ≡ true) where
  signals_now : mode_signals now.entry.mode ≡ true
  signals_now = ap (λ (e : Entry). mode_signals e.mode) i.entry ∙ signals

  refused_now : (new : History) (can : Bool) (refusal : SignalRefusal) → can ≡ true → RefusesNext op terms.limits single now new can refusal
      → Signals op terms.limits now.number now.held single now.seen new (Err refusal)
  refused_now new true refusal yes' s = s
  refused_now new false refusal yes' s = absurd (cc)

  refuses_as : (new : History) (can : Bool) (refusal : SignalRefusal) → can ≡ true
      → Signals op terms.limits old.number old.held single old.seen new (Err refusal) → RefusesNext op terms.limits single old new can refusal
  refuses_as new true refusal yes' s = s
  refuses_as new false refusal yes' s = absurd (cc)

  goes_later : (new : History) (result : Result Next SignalRefusal) → GoesOrRefuses op terms.limits single now new result
      → GoesOrRefuses op terms.limits single old new result
  goes_later new (Ok next) g = record {
    middle = g.middle;
    signals = made_as (mode_signals now.entry.mode) (mode_signals old.entry.mode)
        (λ (phase : ℕ). Signals op terms.limits now.number now.held single now.seen g.middle (Ok phase))
        (λ (phase : ℕ). Signals op terms.limits old.number old.held single old.seen g.middle (Ok phase))
        (g.middle ≡ now.seen) (g.middle ≡ old.seen) next.signalled signals_now signals
        (λ phase s. signals_later op terms single old now i.number i.held i.others g.middle (Ok phase) s) g.signals;
    waits =
        subst (λ (e : Entry). MadeWhere (mode_waits e.mode) (λ (got : Got). Waits op.value terms.limits old.number g.middle new (Ok got))
        (new ≡ g.middle) next.got) i.entry
        (subst (λ (n : ℕ). MadeWhere (mode_waits now.entry.mode) (λ (got : Got). Waits op.value terms.limits n g.middle new (Ok got))
        (new ≡ g.middle) next.got) i.number g.waits);
    named = λ none. absurd (let z : true ≡ false = sym signals ∙ none in cc);
  }
  goes_later new (Err refusal) g =
      refuses_as new (mode_signals old.entry.mode) refusal signals
      (signals_later op terms single old now i.number i.held i.others new (Err refusal)
      (refused_now new (mode_signals now.entry.mode) refusal signals_now g))

  module _ (allows : K → Allows) (new : RegState A K) where
    abbrev IsNext : RegState A K → Result Next SignalRefusal → Type 0
    IsNext start result = IsCall allows terms NoTask entry_after_next (GoesOrRefuses op terms.limits single start new.seen result) start new result

    pub next_later : (result : Result Next SignalRefusal) → IsNext now result → IsNext old result
    next_later result t = record {
      call = goes_later new.seen result t.call;
      entry = t.entry ∙ ap (λ (e : Entry). entry_after_next (result_ok result) e) i.entry;
      mode = t.mode ∙ ap (λ (e : Entry). e.mode) i.entry;
      at = (t.at.0 ∙ i.at, t.at.1 ∙ i.number);
      good = t.good;
      known = t.known;
    }

    -- where it is refused it can be tried again
    pub next_waits : (refusal : SignalRefusal) → IsNext now (Err refusal) → new.held ≡ now.held → HasWaited old new
    next_waits refusal t held =
        let s = refused_now new.seen (mode_signals now.entry.mode) refusal signals_now t.call in
        let more : OthersCame (now.number ∷ []) now.seen new.seen =
        subst (λ (h : History). OthersCame (now.number ∷ []) now.seen h) (sym s.seen) s.others in
        record {
          at = t.at.0 ∙ i.at;
          number = t.at.1 ∙ i.number;
          entry = t.entry ∙ i.entry;
          held = held ∙ i.held;
          others = OthersCame-trans (old.number ∷ []) old.seen now.seen new.seen i.others
              (subst (λ (n : ℕ). OthersCame (n ∷ []) now.seen new.seen) i.number more);
        }
