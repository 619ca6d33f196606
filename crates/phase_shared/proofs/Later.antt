-- A call after others' events is a call from the start.
use Rattle.std.proofs.Common.{◌≡◌, ℕ, ℤ, Bool, false, List, [], ◌∷◌, ◌⊎◌, Option, Some, None, refl, subst, sym, ap, ◌∙◌}
use Rattle.std.specs.Prelude.{Ok, Err, Result}
use Rattle.std.specs.Result.{result_ok}
use Rattle.phase_shared.specs.Phasers.{Limits, Entry, Operation, Parcel, StandsForSends, Outcome, Single, Got, SignalRefusal, WaitRefusal, History, OthersCame}
use Rattle.phase_history.proofs.OthersEvents.{OthersCame-refl, OthersCame-trans}
use Rattle.phase_shared.specs.declared.rule.Terms.{Terms}
use Rattle.phase_shared.specs.Rule.{Allows}
use Rattle.phase_shared.specs.Calls.{Signals, Waits, MayWait, SignalsAndMayWait, IsTry, IsCall, Tries, MaySignal}
use Rattle.phase_shared.specs.Entries.{entry_after_wait}
use Rattle.phase_shared.specs.declared.tried.Tried.{Tried}
use Rattle.phase_shared.specs.declared.tried.Tried.TheVariants.{Busy, Refused}
use Rattle.phase_shared.proofs.Answering.{again}
use Rattle.phase_shared.specs.Regs.{RegState}

-- where no wait was asked for it stands where its signal left it
pub entry_alone : (value : List ℤ → Outcome) (limits : Limits) (me : ℕ) (middle new : History) (got : Option Got) (entry : Entry)
    → MayWait false value limits me middle new got → entry_after_wait got entry ≡ entry
entry_alone value limits me middle new None entry w = refl
entry_alone value limits me middle new (Some got) entry w = absurd w

-- a signal with no wait after it
pub signals_alone : {A : Type 0} (op : Operation A) (limits : Limits) (me : ℕ) (held : Parcel A) (single : Option Single) (old new : History) (answer : ℕ × Option Got)
    → SignalsAndMayWait false op limits me held single old new (Ok answer) → Signals op limits me held single old new (Ok answer.0)
signals_alone op limits me held single old new (phase, None) s =
    subst (λ (h : History). Signals op limits me held single old h (Ok phase)) (sym s.waits) s.signals
signals_alone op limits me held single old new (phase, Some got) s = absurd s.waits

module _ {A K : Type 0} (op : Operation A) (terms : Terms K) (single : Option Single) (old now : RegState A K) (number : now.number ≡ old.number)
    (held : now.held ≡ old.held) (came : OthersCame (old.number ∷ []) old.seen now.seen) where
  -- what the rule allows, it allows after others' events too
  pub may_later : (allows : K → Allows) → MaySignal op allows terms old single → MaySignal op allows terms now single
  may_later allows may h sends good others stands =
      let more : OthersCame (old.number ∷ []) now.seen h = subst (λ n. OthersCame (n ∷ []) now.seen h) number others in
      subst (λ n. allows terms.rule h n (sends ∷ []) single) (sym number)
      (may h sends good (OthersCame-trans (old.number ∷ []) old.seen now.seen h came more) (subst (λ p. StandsForSends op p sends) held stands))

  -- a signal after others' events is a signal from the start
  pub signals_later : (new : History) (answer : Result ℕ SignalRefusal) → Signals op terms.limits now.number now.held single now.seen new answer
      → Signals op terms.limits old.number old.held single old.seen new answer
  signals_later new answer signals =
      let P : ℕ → Parcel A → Type 0 = λ n p. Signals op terms.limits n p single now.seen new answer in
      let s : Signals op terms.limits old.number old.held single now.seen new answer =
      rw held at (subst (λ n. P n now.held) number signals) in
      record {
        before = s.before;
        sends = s.sends;
        others = OthersCame-trans (old.number ∷ []) old.seen now.seen s.before came s.others;
        stands = s.stands;
        seen = s.seen;
        reply = s.reply;
      }

  -- the same, with a wait that was asked for
  pub signals_and_may_wait_later : (asked : Bool) (new : History) (answer : Result (ℕ × Option Got) SignalRefusal)
      → SignalsAndMayWait asked op terms.limits now.number now.held single now.seen new answer
      → SignalsAndMayWait asked op terms.limits old.number old.held single old.seen new answer
  signals_and_may_wait_later asked new (Ok answer) s = record {
    middle = s.middle;
    signals = signals_later s.middle (Ok answer.0) s.signals;
    waits = subst (λ n. MayWait asked op.value terms.limits n s.middle new answer.1) number s.waits;
  }
  signals_and_may_wait_later asked new (Err refusal) s = signals_later new (Err refusal) s

-- a wait after others' events is a wait from the start
pub waits_later : (value : List ℤ → Outcome) (limits : Limits) (me number : ℕ) (old now new : History) (answer : Result Got WaitRefusal)
    → number ≡ me → OthersCame (me ∷ []) old now → Waits value limits number now new answer → Waits value limits me old new answer
waits_later value limits me number old now new answer same came w =
    let v : Waits value limits me now new answer = subst (λ (n : ℕ). Waits value limits n now new answer) same w in
    record { before = v.before; others = OthersCame-trans (me ∷ []) old now v.before came v.others; seen = v.seen; reply = v.reply }

-- events of others came, and nothing else changed: from there a call that waits tries again
pub record HasWaited {A K : Type 0} (old now : RegState A K) : Type 0 where
  pub at : now.at ≡ old.at
  pub number : now.number ≡ old.number
  pub entry : now.entry ≡ old.entry
  pub held : now.held ≡ old.held
  pub others : OthersCame (old.number ∷ []) old.seen now.seen

module _ {A K X R : Type 0} (allows : K → Allows) (terms : Terms K) (no_task : R) (after : Option X → Entry → Entry) (old now new : RegState A K)
    (waited : HasWaited old now) where
  -- a try that is made again: the turn was another's, or it came too early
  pub waits_on_as : (same : Type 0) (call : Result X R → Type 0) (early : R) (tried : Tried R) (result : Result X (Tried R)) → result ≡ Err tried
      → (tried ≡ Busy) ⊎ (tried ≡ Refused early) → IsTry allows terms no_task after (Tries same call result) now new result → (same → new ≡ now)
      → (call (Err early) → OthersCame (now.number ∷ []) now.seen new.seen) → ((e : Entry) → after None e ≡ e) → new.held ≡ now.held
      → HasWaited old new
  waits_on_as same call early tried result is again_for t stays came stands held =
      let more : OthersCame (now.number ∷ []) now.seen new.seen =
      again same call early (OthersCame (now.number ∷ []) now.seen new.seen) tried again_for (subst (λ r. Tries same call r) is t.call)
      (λ still. subst (λ (h : History). OthersCame (now.number ∷ []) now.seen h) (sym (ap (λ (r : RegState A K). r.seen) (stays still)))
      (OthersCame-refl (now.number ∷ []) now.seen))
      came in
      record {
        at = t.at.0 ∙ waited.at;
        number = t.at.1 ∙ waited.number;
        entry = t.entry ∙ ap (λ r. after (result_ok r) now.entry) is ∙ stands now.entry ∙ waited.entry;
        held = held ∙ waited.held;
        others = OthersCame-trans (old.number ∷ []) old.seen now.seen new.seen waited.others (subst (λ n. OthersCame (n ∷ []) now.seen new.seen) waited.number more);
      }

  -- where nothing is lent beside it
  pub waits_on : (call : Result X R → Type 0) (early : R) (tried : Tried R) (result : Result X (Tried R)) → result ≡ Err tried
      → (tried ≡ Busy) ⊎ (tried ≡ Refused early) → IsTry allows terms no_task after (Tries (new ≡ now) call result) now new result
      → (call (Err early) → OthersCame (now.number ∷ []) now.seen new.seen) → ((e : Entry) → after None e ≡ e) → new.held ≡ now.held
      → HasWaited old new
  waits_on call early tried result is again_for t came stands held =
      waits_on_as (new ≡ now) call early tried result is again_for t (λ same. same) came stands held

  -- a try that is accepted is the answer of the call
  pub accepted : (answered answered' : Type 0) (result : Result X (Tried R)) (x : X) → result ≡ Ok x
      → IsTry allows terms no_task after answered now new result → answered' → IsCall allows terms no_task after answered' old new (Ok x)
  accepted answered answered' result x is t call = record {
    call = call;
    entry = t.entry ∙ (λ i. after (result_ok (is i)) (waited.entry i));
    mode = t.mode ∙ ap (λ (e : Entry). e.mode) waited.entry;
    at = (t.at.0 ∙ waited.at, t.at.1 ∙ waited.number);
    good = t.good;
    known = λ none. cc;
  }

  -- and so is one that is refused
  pub refused : (answered answered' : Type 0) (result : Result X (Tried R)) (refusal : R) → result ≡ Err (Refused refusal)
      → IsTry allows terms no_task after answered now new result → answered' → IsCall allows terms no_task after answered' old new (Err refusal)
  refused answered answered' result refusal is t call = record {
    call = call;
    entry = t.entry ∙ (λ i. after (result_ok (is i)) (waited.entry i));
    mode = t.mode ∙ ap (λ (e : Entry). e.mode) waited.entry;
    at = (t.at.0 ∙ waited.at, t.at.1 ∙ waited.number);
    good = t.good;
    known = λ none. t.known (is ∙ ap (λ r. Err (Refused r)) (same_refusal refusal no_task none));
  }
    where
      same_refusal : (x y : R) → ◌≡◌ {A = Result X R} (Err x) (Err y) → x ≡ y
      same_refusal x y e = cc
