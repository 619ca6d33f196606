-- What ends an ask is a next phase of its member.
use Rattle.std.proofs.Common.{◌≡◌, ℕ, ℤ, Bool, true, false, List, Option, Some, None, unwrap_or, refl, ap, ◌∙◌}
use Rattle.std.specs.Prelude.{Result, Ok, Err}
use Rattle.phase_base.specs.Limits.{Limits}
use Rattle.phase_accum.specs.declared.outcome.Outcome.{Outcome}
use Rattle.phase_base.specs.Modes.{mode_signals, mode_waits}
use Rattle.phase_base.specs.declared.entry.Entry.{Entry}
use Rattle.phase_accum.specs.Operations.{Operation, AccumulateLaws}
use Rattle.phase_accum.specs.Parcels.{StandsForSends}
use Rattle.phase_history.specs.declared.got.Got.{Got}
use Rattle.phase_history.specs.declared.refusal.SignalRefusal.{SignalRefusal}
use Rattle.phase_history.specs.declared.refusal.SignalRefusal.TheVariants.{NoTask}
use Rattle.phase_history.specs.Histories.{History}
use Rattle.phase_shared.specs.Asked.{IsGone, IsTakenBack}
use Rattle.phase_shared.specs.Calls.{IsCall, IsTry, Tries, Signals, SignalsAndMayWait, MayWait, Waits, tried}
use Rattle.phase_shared.specs.Entries.{entry_after_both, entry_after_next}
use Rattle.phase_shared.specs.Nexts.{MadeWhere, RefusesNext}
use Rattle.phase_shared.specs.Regs.{RegState, phaser_lock, phaser_terms, phaser_limits}
use Rattle.phase_shared.specs.Rule.{Allows}
use Rattle.phase_shared.specs.declared.next.Next.{Next}
use Rattle.phase_shared.specs.declared.phaser.Phaser.{Phaser}
use Rattle.phase_shared.specs.declared.rule.Terms.{Terms}
use Rattle.phase_shared.specs.declared.rule.Unwoken.{Unwoken}
use Rattle.phase_shared.specs.declared.tried.Tried.{Tried}
use Rattle.phase_shared.specs.declared.tried.Tried.TheVariants.{Refused}
use Rattle.shared_handle.specs.Members.{as_registration, limits_by}
use Rattle.shared_handle.specs.Calls.{NextCall, SignalsAndWaits, both_of}
use Rattle.shared_handle.proofs.Trying.{limits_same, member_try, signals_and_waits}

-- a call that is made has its answer
was_made : {X : Type 0} (can : Bool) (call : X → Type 0) (nothing : Type 0) (answer : Option X) (default : X)
    → can ≡ true → MadeWhere can call nothing answer → call (unwrap_or answer default)
was_made true call nothing (Some answer) default yes' m = m
was_made true call nothing None default yes' m = absurd m
was_made false call nothing answer default none m = absurd (cc)

-- what came of a wait
may_wait : (can : Bool) (value : List ℤ → Outcome) (limits : Limits) (me : ℕ) (middle new : History) (nothing : Type 0) (got : Option Got)
    → can ≡ true → MadeWhere can (λ got. Waits value limits me middle new (Ok got)) nothing got
    → MayWait true value limits me middle new got
may_wait true value limits me middle new nothing (Some got) yes' m = m
may_wait true value limits me middle new nothing None yes' m = absurd m
may_wait false value limits me middle new nothing got none m = absurd (cc)

-- where it stands then
stands_then : (can : Bool) (call : ℕ → Type 0) (nothing : Type 0) (signalled : Option ℕ) (got : Option Got) (entry : Entry)
    → can ≡ true → MadeWhere can call nothing signalled
    → entry_after_next (Some (record { signalled = signalled; got = got })) entry ≡ entry_after_both (Some (unwrap_or signalled 0, got)) entry
stands_then true call nothing (Some phase) got entry yes' m = refl
stands_then true call nothing None got entry yes' m = absurd m
stands_then false call nothing signalled got entry none m = absurd (cc)

refuses : {A K : Type 0} (op : Operation A) (limits : Limits) (old : RegState A K) (new : History) (can : Bool) (refusal : SignalRefusal)
    → can ≡ true → RefusesNext op limits None old new can refusal
    → Signals op limits old.number old.held None old.seen new (Err refusal)
refuses op limits old new true refusal yes' r = r
refuses op limits old new false refusal none r = absurd (cc)

module _ {A : Type 0} (op : Operation A) (allows : Unwoken → Allows) (terms : Terms Unwoken) (old new : RegState A Unwoken)
    (signals : mode_signals old.entry.mode ≡ true) (waits : mode_waits old.entry.mode ≡ true) where
  -- a next phase is a signal and a wait
  pub gone_both : (gone : Result Next SignalRefusal) → IsGone op allows terms old new gone → IsTakenBack op allows terms old new (both_of gone)
  gone_both (Ok next) c = record {
    call = record {
      middle = c.call.middle;
      signals = was_made (mode_signals old.entry.mode) _ _ next.signalled 0 signals c.call.signals;
      waits = may_wait (mode_waits old.entry.mode) op.value terms.limits old.number c.call.middle new.seen _ next.got waits c.call.waits;
    };
    entry = c.entry ∙ stands_then (mode_signals old.entry.mode) _ _ next.signalled next.got old.entry signals c.call.signals;
    mode = c.mode;
    at = c.at;
    good = c.good;
    known = λ e. cc;
  }
  gone_both (Err refusal) c = record {
    call = refuses op terms.limits old new.seen (mode_signals old.entry.mode) refusal signals c.call;
    entry = c.entry;
    mode = c.mode;
    at = c.at;
    good = c.good;
    known = λ e. c.known (same_refused refusal NoTask e);
  }
    where
      same_refused : (x y : SignalRefusal) → ◌≡◌ {A = Result (ℕ × Option Got) SignalRefusal} (Err x) (Err y) → ◌≡◌ {A = Result Next SignalRefusal} (Err x) (Err y)
      same_refused x y e = let z : x ≡ y = cc in ap Err z

-- a call is a try that was not busy
call_try : {A K X R : Type 0} (allows : K → Allows) (terms : Terms K) (no_task : R) (after : Option X → Entry → Entry)
    (same : Type 0) (call : Result X R → Type 0) (old new : RegState A K) (answer : Result X R)
    → IsCall allows terms no_task after (call answer) old new answer
    → IsTry allows terms no_task after (Tries same call (tried answer)) old new (tried answer)
call_try {X} {R} allows terms no_task after same call old new (Ok x) c = record {
  call = c.call;
  entry = c.entry;
  mode = c.mode;
  at = c.at;
  good = c.good;
  known = λ e. cc;
  alone = λ only e. cc;
}
call_try {X} {R} allows terms no_task after same call old new (Err r) c = record {
  call = c.call;
  entry = c.entry;
  mode = c.mode;
  at = c.at;
  good = c.good;
  known = λ e. c.known (same_refused r no_task e);
  alone = λ only e. cc;
}
  where
    same_refused : (x y : R) → ◌≡◌ {A = Result X (Tried R)} (Err (Refused x)) (Err (Refused y)) → ◌≡◌ {A = Result X R} (Err x) (Err y)
    same_refused x y e = let z : x ≡ y = cc in ap Err z

-- an ask that was taken back ends as a next phase of its member
pub back_call : {A : Type 0} (op : Operation A) (laws : AccumulateLaws op) (allows : Unwoken → Allows) (phaser : Phaser A Unwoken)
    (old new : RegState A Unwoken) (values : List ℤ) (answer : Result (ℕ × Option Got) SignalRefusal)
    → old.at ≡ phaser_lock phaser → StandsForSends op old.held values
    → IsTakenBack op allows (phaser_terms phaser) old new answer
    → NextCall op.value values None (as_registration old) (as_registration new) (tried answer)
back_call op laws allows phaser old new values answer at stands c =
    let limits = limits_same phaser old at in
    member_try allows phaser NoTask entry_after_both (new ≡ old) (as_registration new ≡ as_registration old)
    (SignalsAndMayWait true op (phaser_limits phaser) old.number old.held None old.seen new.seen)
    (SignalsAndWaits op.value (limits_by old.at) old.number values None old.seen new.seen)
    old new (tried answer) at (λ still. ap as_registration still)
    (λ told s. signals_and_waits op laws (phaser_limits phaser)
    (limits_by old.at) old.number old.held values None old.seen new.seen told limits stands s)
    (call_try allows (phaser_terms phaser) NoTask entry_after_both (new ≡ old)
    (SignalsAndMayWait true op (phaser_limits phaser) old.number old.held None old.seen new.seen) old new answer c)
