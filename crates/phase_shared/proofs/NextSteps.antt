-- A wait after a signal.
use Rattle.std.proofs.Common.{◌≡◌, ◌≢◌, ℕ, ◌+◌, ◌≤◌, ℤ, Bool, true, false, not, ◌&&◌, cond, eqb, leb, ltb, List, [], ◌∷◌, Option, Some, None, refl, sym, ap, subst, ◌∙◌, arith}
use Rattle.std.proofs.lemmas.Bool.{ne_eqb}
use Rattle.std.proofs.lemmas.Bool.Decides.{nat_tests}
use Rattle.phase_shared.specs.Phasers.{Limits, mode_signals, mode_waits, Mode, Entry, Outcome, Got, entry_of, signalled, signal_phases, Single, WaitRefusal, History, members_of, positions_of, IsLegal, refusal_at, wait_rows, wait_refusal, OthersCame}
use Rattle.phase_base.specs.declared.mode.Mode.TheVariants.{Sig, Wait, SigWait, Single as Singles}
use Rattle.std.specs.Prelude.{is_some, Ok}
use Rattle.std.proofs.lemmas.Option.{same_Some}
use Rattle.phase_base.specs.Members.{least as least_of}
use Rattle.phase_history.specs.declared.event.Event.TheVariants.{Signalled}
use Rattle.phase_history.specs.declared.refusal.WaitRefusal.TheVariants as wait
use Rattle.phase_history.specs.Histories.{done_at}
use Rattle.phase_history.specs.Refusals.{is_bad_block}
use Rattle.phase_base.specs.Lists.{first_row}
use Rattle.phase_history.proofs.LawProofs.{turns_law}
use Rattle.phase_history.proofs.MemberLemmas.{entry_of-changed_same}
use Rattle.phase_history.proofs.Standstill.{limits_of}
use Rattle.phase_shared.specs.Calls.{Waits}
use Rattle.phase_shared.specs.Nexts.{MadeWhere, MayWait}
use Rattle.phase_shared.proofs.Giving.{member_after}

-- a mode that does not signal waits
pub waits_else : (mode : Mode) → mode_signals mode ≡ false → mode_waits mode ≡ true
waits_else Sig none = absurd (cc)
waits_else Wait none = refl
waits_else SigWait none = absurd (cc)
waits_else Singles none = absurd (cc)

-- where it stands after its signal
pub signalled_member : (limits : Limits) (me : ℕ) (entry entry' : Entry) (old before new : History) (single : Option Single) (sends : List ℤ)
    → OthersCame (me ∷ []) old before → new ≡ Signalled me (sends ∷ []) single ∷ before → IsLegal limits new
    → entry_of (members_of old) me ≡ Some entry → entry_of (members_of new) me ≡ Some entry' → entry' ≡ signalled 1 entry
signalled_member limits me entry entry' old before new single sends came seen legal member member' =
    let all : IsLegal limits (Signalled me (sends ∷ []) single ∷ before) = subst (λ (h : History). IsLegal limits h) seen legal in
    let there = member_after limits me entry old before came all.0 member in
    same_Some entry' (signalled 1 entry)
    (sym member' ∙ ap (λ h. entry_of (members_of h) me) seen ∙ entry_of-changed_same me (signalled 1) entry (members_of before) there)

-- after its signal a task that waits too is ahead of its waits
pub signalled_apart : (limits : Limits) (me : ℕ) (entry entry' : Entry) (old before new : History) (single : Option Single) (sends : List ℤ)
    → OthersCame (me ∷ []) old before → new ≡ Signalled me (sends ∷ []) single ∷ before → IsLegal limits new
    → entry_of (members_of old) me ≡ Some entry → entry' ≡ signalled 1 entry → mode_signals entry.mode ≡ true → mode_waits entry.mode ≡ true
    → entry'.signal_phase ≢ entry'.wait_phase
signalled_apart limits me entry entry' old before new single sends came seen legal member is signals waits same =
    let all : IsLegal limits (Signalled me (sends ∷ []) single ∷ before) = subst (λ (h : History). IsLegal limits h) seen legal in
    let there = member_after limits me entry old before came all.0 member in
    let turn = turns_law limits before me entry all.0 there signals waits in
    let low : entry.wait_phase ≤ entry.signal_phase = turn.low in
    let equal : entry.signal_phase + 1 ≡ entry.wait_phase = ap (λ (e : Entry). e.signal_phase) (sym is) ∙ same ∙ ap (λ (e : Entry). e.wait_phase) is in
    absurd (omega arith)

-- a wait whose task has signalled is refused for want of time alone
pub only_early : (limits : Limits) (h : History) (me : ℕ) (entry : Entry) (refusal : WaitRefusal) → IsLegal limits h
    → entry_of (members_of h) me ≡ Some entry → mode_waits entry.mode ≡ true
    → (mode_signals entry.mode ≡ true → entry.signal_phase ≢ entry.wait_phase)
    → wait_refusal limits h me 1 ≡ Some refusal → refusal ≡ wait.NotYet
only_early limits h me entry refusal legal member waits apart refused =
    let at : first_row (wait_rows limits (positions_of h) 1 entry) ≡ Some refusal =
    sym (ap (λ o. refusal_at o wait.NoTask (wait_rows limits (positions_of h) 1)) member) ∙ refused in
    let least : 1 ≤ limits.bound = (limits_of limits h legal).bound_least in
    last_row (not (mode_waits entry.mode)) (is_bad_block limits 1) (mode_signals entry.mode && eqb entry.signal_phase entry.wait_phase)
    (leb (done_at (positions_of h)) entry.wait_phase && is_some (least_of (signal_phases (members_of h)))) refusal
    (ap not waits) (long_enough limits.bound least)
    (not_both (mode_signals entry.mode) (eqb entry.signal_phase entry.wait_phase) (λ signals. ne_eqb entry.signal_phase entry.wait_phase (apart signals)))
    at
  where
    last_row : (a b c d : Bool) (refusal : WaitRefusal) → a ≡ false → b ≡ false → c ≡ false
        → cond a (Some wait.NoWait) (cond b (Some wait.BadBlock) (cond c (Some wait.SignalFirst) (cond d (Some wait.NotYet) None))) ≡ Some refusal
        → refusal ≡ wait.NotYet
    last_row true b c d refusal no_a no_b no_c is = absurd (cc)
    last_row false true c d refusal no_a no_b no_c is = absurd (cc)
    last_row false false true d refusal no_a no_b no_c is = absurd (cc)
    last_row false false false true refusal no_a no_b no_c is = sym (same_Some wait.NotYet refusal is)
    last_row false false false false refusal no_a no_b no_c is = absurd (cc)

    not_both : (a b : Bool) → (a ≡ true → b ≡ false) → (a && b) ≡ false
    not_both true b none = none refl
    not_both false b none = refl

    long_enough : (bound : ℕ) → 1 ≤ bound → ltb bound 1 ≡ false
    long_enough bound least = grind (arith, nat_tests)

-- a call that is made where it can be
pub made : {X : Type 0} (can : Bool) (call : X → Type 0) (nothing : Type 0) (answer : X) → can ≡ true → call answer → MadeWhere can call nothing (Some answer)
made true call nothing answer yes' answered = answered
made false call nothing answer yes' answered = absurd (cc)

-- and one that is not made
pub not_made : {X : Type 0} (can : Bool) (call : X → Type 0) (nothing : Type 0) → can ≡ false → nothing → MadeWhere can call nothing None
not_made true call nothing no' none = absurd (cc)
not_made false call nothing no' none = none

-- no single was named
pub is_none : (single : Option Single) → is_some single ≡ false → single ≡ None
is_none None none = refl
is_none (Some single) none = absurd (cc)

-- what came of a wait under its signal's turn
module _ (value : List ℤ → Outcome) (limits : Limits) (me : ℕ) (middle new : History) where
  abbrev pub MadeWait : Bool → Option Got → Type 0
  MadeWait can got = MadeWhere can (λ (got : Got). Waits value limits me middle new (Ok got)) (new ≡ middle) got

  -- it was not asked for
  pub not_asked : (asked : Bool) (got : Option Got) → asked ≡ false → MayWait asked value limits me middle new got → MadeWait asked got
  not_asked true got no' w = absurd (cc)
  not_asked false None no' w = w
  not_asked false (Some got) no' w = absurd w

  -- it has its answer
  pub answered : (asked : Bool) (got : Option Got) → is_some got ≡ true → MayWait asked value limits me middle new got → MadeWait asked got
  answered asked None some w = absurd (cc)
  answered true (Some got) some w = w
  answered false (Some got) some w = absurd w

  -- it has no answer yet
  pub unanswered : (asked : Bool) (got : Option Got) → is_some got ≡ false → MayWait asked value limits me middle new got → new ≡ middle
  unanswered true None none w = w.0
  unanswered false None none w = w
  unanswered asked (Some got) none w = absurd (cc)
