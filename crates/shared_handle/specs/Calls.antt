-- What the calls of a registration answer, and how the history that it has seen goes on by them:
-- by events of others up to the moment of the call, and then by its own, where it makes one.
use Rattle.std.specs.Prelude.{◌≡◌, ◌≢◌, ℕ, ◌+◌, ◌≤◌, ℤ, List, [], ◌∷◌, ◌++◌, true, length, Option, unwrap_or, Result, Ok, Err}
use Rattle.std.specs.Result.{result_ok}
use Rattle.phase_base.specs.Limits.{Limits}
use Rattle.phase_base.specs.declared.entry.Entry.{Entry}
use Rattle.phase_base.specs.declared.limits.TheConstants.{SENDS_MAX}
use Rattle.phase_base.specs.declared.mode.Mode.{Mode}
use Rattle.phase_base.specs.declared.mode.Mode.TheVariants as mode
use Rattle.phase_accum.specs.Sends.{AreSends}
use Rattle.phase_accum.specs.declared.outcome.Outcome.{Outcome}
use Rattle.phase_accum.specs.declared.single.Single.{Single}
use Rattle.phase_history.specs.declared.got.Got.{Got}
use Rattle.phase_history.specs.declared.got.GotBlock.{GotBlock}
use Rattle.phase_history.specs.declared.refusal.RegisterRefusal.{RegisterRefusal}
use Rattle.phase_history.specs.declared.refusal.RegisterRefusal.TheVariants as register
use Rattle.phase_history.specs.declared.refusal.SignalRefusal.{SignalRefusal}
use Rattle.phase_history.specs.declared.refusal.SignalRefusal.TheVariants as signal
use Rattle.phase_history.specs.declared.refusal.WaitRefusal.{WaitRefusal}
use Rattle.phase_history.specs.declared.refusal.WaitRefusal.TheVariants as wait
use Rattle.phase_history.specs.Histories.{History, entry_at}
use Rattle.phase_history.specs.Replies.{signal_reply, after_signal}
use Rattle.phase_history.specs.Others.{OthersCame}
use Rattle.phase_history.specs.declared.refusal.NoTask.{NoTask}
use Rattle.phase_core.specs.Standings.{missing_of, put_over}
use Rattle.phase_core.specs.declared.standing.Standing.{Standing}
use Rattle.phase_shared.specs.declared.next.Next.{Next}
use Rattle.phase_shared.specs.declared.tried.Tried.{Tried}
use Rattle.phase_shared.specs.declared.tried.Tried.TheVariants.{Busy, Refused}
use Rattle.phase_shared.specs.Blocks.{SignalsValues, WaitsBlock, entry_after_block, entry_after_values}
use Rattle.phase_shared.specs.Calls.{Tries, Waits, MayWait, HasRegistered, RefusesRegister}
use Rattle.phase_shared.specs.Standings.{TellsStanding, unregistered}
use Rattle.phase_shared.specs.Entries.{entry_stays, entry_after_signal, entry_after_wait, entry_after_both}
use Rattle.phase_shared.specs.Joins.{HasRegisteredNow}
use Rattle.shared_handle.specs.Members.{Registration, limits_by, IsOnlyOne, StaysAt}

-- a try of a registration: the turn was another's and all stayed as it was, or the call has its
-- answer. It stands where `after` says; it is never answered that it is no member, nor, where it is
-- the only one that it has seen, that the turn was another's
pub record IsMemberTry {X R : Type 0} (no_task : R) (after : Option X → Entry → Entry)
    (same : Type 0) (call : Result X R → Type 0) (old new : Registration)
    (answer : Result X (Tried R)) : Type 0 where
  pub call_is : Tries same call answer
  pub stays : StaysAt (after (result_ok answer) old.entry) old new
  pub known : answer ≢ Err (Refused no_task)
  pub alone : IsOnlyOne old → answer ≢ Err Busy

-- ---- signals

-- as many sends as these values, which a phase cannot tell from them: wherever they stand in it, it
-- has the value that it has with these
pub record AreAlike (value : List ℤ → Outcome) (values sends : List ℤ) : Type 0 where
  pub are_sends : AreSends sends
  pub many : length sends ≡ length values
  pub one : (v : ℤ) → values ≡ v ∷ [] → sends ≡ v ∷ []
  pub same : (front back : List ℤ) → AreSends front → AreSends back
      → length front + length values + length back ≤ SENDS_MAX
      → value (front ++ sends ++ back) ≡ value (front ++ values ++ back)

-- a signal of these values: events of others, and there the definition's answer; then the signal's
-- event, where it was accepted, with sends that are alike
pub record SignalsSends (value : List ℤ → Outcome) (limits : Limits) (me : ℕ) (values : List ℤ)
    (single : Option Single) (old new : History) (answer : Result ℕ SignalRefusal) : Type 0 where
  pub before : History
  pub sends : List ℤ
  pub others : OthersCame (me ∷ []) old before
  pub alike : AreAlike value values sends
  pub seen : new ≡ after_signal answer me (sends ∷ []) single before
  pub reply : signal_reply limits before me (values ∷ []) single ≡ answer

-- an accepted signal, up to the middle, and then a wait, where that has an answer
pub record HasSignalledAndWaits (value : List ℤ → Outcome) (limits : Limits) (me : ℕ)
    (values : List ℤ) (single : Option Single) (old new : History) (answer : ℕ × Option Got)
    : Type 0 where
  pub middle : History
  pub signals : SignalsSends value limits me values single old middle (Ok answer.0)
  pub waits : MayWait true value limits me middle new answer.1

-- the same, or the signal is refused, and then there is no wait
abbrev pub SignalsAndWaits : (List ℤ → Outcome) → Limits → ℕ → List ℤ → Option Single → History
    → History → Result (ℕ × Option Got) SignalRefusal → Type 0
SignalsAndWaits value limits me values single old new (Ok answer) =
    HasSignalledAndWaits value limits me values single old new answer
SignalsAndWaits value limits me values single old new (Err refusal) =
    SignalsSends value limits me values single old new (Err refusal)

abbrev pub SignalCall : (List ℤ → Outcome) → List ℤ → Option Single → Registration → Registration
    → Result ℕ (Tried SignalRefusal) → Type 0
SignalCall value values single old new answer =
    IsMemberTry signal.NoTask entry_after_signal (new ≡ old)
    (SignalsSends value (limits_by old.at) old.number values single old.seen new.seen) old new
    answer

abbrev pub NextCall : (List ℤ → Outcome) → List ℤ → Option Single → Registration → Registration
    → Result (ℕ × Option Got) (Tried SignalRefusal) → Type 0
NextCall value values single old new answer =
    IsMemberTry signal.NoTask entry_after_both (new ≡ old)
    (SignalsAndWaits value (limits_by old.at) old.number values single old.seen new.seen) old new
    answer

-- for the code: a next phase, as a call answers it that signals and waits
abbrev pub both_of : {R : Type 0} → Result Next R → Result (ℕ × Option Got) R
both_of (Ok next) = Ok (unwrap_or next.signalled 0, next.got)
both_of (Err refusal) = Err refusal

abbrev pub BlockSignalCall : List ℤ → Option Single → Registration → Registration
    → Result ℕ (Tried SignalRefusal) → Type 0
BlockSignalCall values single old new answer =
    IsMemberTry signal.NoTask (entry_after_block (length values)) (new ≡ old)
    (SignalsValues (limits_by old.at) old.number values single old.seen new.seen) old new answer

-- ---- waits

abbrev pub WaitCall : (List ℤ → Outcome) → Registration → Registration
    → Result Got (Tried WaitRefusal) → Type 0
WaitCall value old new answer =
    IsMemberTry wait.NoTask entry_after_wait (new ≡ old)
    (Waits value (limits_by old.at) old.number old.seen new.seen) old new answer

abbrev pub BlockWaitCall : (List ℤ → Outcome) → List Outcome → List Outcome → Registration
    → Registration → Result GotBlock (Tried WaitRefusal) → Type 0
BlockWaitCall value old_out new_out old new answer =
    IsMemberTry wait.NoTask entry_after_values ((new ≡ old) × (new_out ≡ old_out))
    (WaitsBlock value (limits_by old.at) old.number old.seen new.seen old_out new_out) old new
    answer

-- ---- how a phaser stands

-- events of others, and there how the phaser stands; the numbers of those that are missing are
-- written over the places
pub record FindsMissing (me : ℕ) (old new : History) (old_places new_places : List ℕ)
    (standing : Standing) : Type 0 where
  pub stands : TellsStanding me old new standing
  pub places_are : new_places ≡ put_over (missing_of new) old_places

-- so it is answered, and never refused
abbrev pub AnswersMissing : ℕ → History → History → List ℕ → List ℕ → Result Standing NoTask
    → Type 0
AnswersMissing me old new old_places new_places (Ok standing) =
    FindsMissing me old new old_places new_places standing
AnswersMissing me old new old_places new_places (Err refusal) = ⊥

abbrev pub MissingCall : List ℕ → List ℕ → Registration → Registration
    → Result Standing (Tried NoTask) → Type 0
MissingCall old_places new_places old new answer =
    IsMemberTry unregistered entry_stays ((new ≡ old) × (new_places ≡ old_places))
    (AnswersMissing old.number old.seen new.seen old_places new_places) old new answer

-- ---- children

-- a child: it is on its parent's phaser, at its parent's phases, and has seen what its parent has
pub record HasMadeChild (mode : Mode) (old new child : Registration) : Type 0 where
  pub registered : HasRegistered old.number child.number mode old.seen new.seen
  pub at : child.at ≡ old.at
  pub entry : child.entry ≡ entry_at mode old.entry.signal_phase old.entry.wait_phase
  pub seen : child.seen ≡ new.seen

-- a child, or the refusal
abbrev pub MakesChild : Mode → Registration → Registration
    → Result Registration RegisterRefusal → Type 0
MakesChild mode old new (Ok child) = HasMadeChild mode old new child
MakesChild mode old new (Err refusal) = RefusesRegister old.number mode old.seen new.seen refusal

-- a child that waits from the first phase on that is not complete
pub record HasMadeChildNow (old new child : Registration) : Type 0 where
  pub registered : HasRegisteredNow old.number child.number old.entry child.entry old.seen new.seen
  pub at : child.at ≡ old.at
  pub seen : child.seen ≡ new.seen

-- such a child, or the refusal
abbrev pub MakesChildNow : Registration → Registration → Result Registration RegisterRefusal
    → Type 0
MakesChildNow old new (Ok child) = HasMadeChildNow old new child
MakesChildNow old new (Err refusal) = RefusesRegister old.number mode.Wait old.seen new.seen refusal

abbrev pub AddCall : Mode → Registration → Registration
    → Result Registration (Tried RegisterRefusal) → Type 0
AddCall mode old new answer =
    IsMemberTry register.NoTask entry_stays (new ≡ old) (MakesChild mode old new) old new answer

abbrev pub AddNowCall : Registration → Registration → Result Registration (Tried RegisterRefusal)
    → Type 0
AddNowCall old new answer =
    IsMemberTry register.NoTask entry_stays (new ≡ old) (MakesChildNow old new) old new answer
