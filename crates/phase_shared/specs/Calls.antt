-- What each call of a registration answers, and what the registration has seen and where it stands
-- after it. The records of single calls are those of the steps of its seat: the history that its
-- task has seen goes on by events of others, up to the moment of the call, and then by the call's
-- own event, where it makes one.
use Rattle.std.specs.Prelude.{◌≡◌, ℕ, ℤ, Bool, true, false, List, [], ◌∷◌, Option, Result, Ok, Err, IsErr, None, Some, min, ◌+◌, ◌-◌, ◌^◌, ◌≢◌}
use Rattle.phase_shared.specs.Phasers.{Limits, Mode, Operation, Parcel, StandsForSends, Outcome, Single, Got, RegisterRefusal, SignalRefusal, WaitRefusal, History, greatest_used, entry_at, register_refusal, signal_reply, after_signal, wait_reply, after_wait, OthersCame, OnlyUsed, Entry}
use Rattle.phase_history.specs.declared.event.Event.TheVariants.{Registered, Dropped}
use Rattle.phase_history.specs.declared.refusal.RegisterRefusal.TheVariants as register
use Rattle.phase_shared.specs.declared.seats.view.View.{View}
use Rattle.phase_shared.specs.declared.rule.Terms.{Terms}
use Rattle.phase_shared.specs.Views.{resting}
use Rattle.phase_shared.specs.Rule.{Allows, IsGoodAt}
use Rattle.phase_shared.specs.declared.tried.Tried.{Tried}
use Rattle.phase_shared.specs.declared.tried.Tried.TheVariants.{Busy, Refused}
use Rattle.std.specs.Result.{result_ok}
use Rattle.phase_shared.specs.Regs.{RegState}

-- a refused try: the turn was another's and all stayed as it was, or the call is refused
abbrev pub Refuses : {R : Type 0} → Type 0 → (R → Type 0) → Tried R → Type 0
Refuses same call Busy = same
Refuses same call (Refused refusal) = call refusal

-- a try: the turn was another's and all stayed as it was, or the call has its answer
abbrev pub Tries : {X R : Type 0} → Type 0 → (Result X R → Type 0) → Result X (Tried R) → Type 0
Tries same call (Ok answer) = call (Ok answer)
Tries same call (Err tried) = Refuses same (λ refusal. call (Err refusal)) tried

-- for the code: an answer of a call under the turn, as a try tells it
abbrev pub tried : {X R : Type 0} → Result X R → Result X (Tried R)
tried (Ok answer) = Ok answer
tried (Err refusal) = Err (Refused refusal)

-- a signal: events of others, and there the definition's answer, with sends that the task holds;
-- then the signal's event, where it was accepted
pub record Signals {A : Type 0} (op : Operation A) (limits : Limits) (me : ℕ) (held : Parcel A)
    (single : Option Single) (old new : History) (answer : Result ℕ SignalRefusal) : Type 0 where
  pub before : History
  pub sends : List ℤ
  pub others : OthersCame (me ∷ []) old before
  pub stands : StandsForSends op held sends
  pub seen : new ≡ after_signal answer me (sends ∷ []) single before
  -- the same, whichever sends those are that the task holds
  pub reply : (xs : List ℤ) → StandsForSends op held xs
      → signal_reply limits before me (xs ∷ []) single ≡ answer

-- a wait: events of others, and there the definition's answer; then the wait's event, where it got
-- a value
pub record Waits (value : List ℤ → Outcome) (limits : Limits) (me : ℕ) (old new : History)
    (answer : Result Got WaitRefusal) : Type 0 where
  pub before : History
  pub others : OthersCame (me ∷ []) old before
  pub seen : new ≡ after_wait answer me before
  pub reply : wait_reply value limits before me ≡ answer

-- the number above this one, or where there is none, the last number
abbrev pub number_after : ℕ → ℕ
number_after greatest = min (greatest + 1) (2 ^ 64 - 1)

-- the number that the next child is given
abbrev pub next_child : History → ℕ
next_child h = number_after (greatest_used h)

-- an accepted registration: events of others, and there a child with the number above all that
-- were used; then its event
pub record HasRegistered (me child : ℕ) (mode : Mode) (old new : History) : Type 0 where
  pub before : History
  pub others : OthersCame (me ∷ []) old before
  pub seen : new ≡ Registered me child mode ∷ before
  pub reply : register_refusal before me child mode ≡ None
  pub next : child ≡ greatest_used before + 1

-- a refused registration: events of others, and there the definition's refusal, or want of memory
-- where the definition accepts
abbrev pub RefusesRegister : ℕ → Mode → History → History → RegisterRefusal → Type 0
RefusesRegister me mode old new register.OutOfMemory =
    OthersCame (me ∷ []) old new × (register_refusal new me (next_child new) mode ≡ None)
RefusesRegister me mode old new refusal =
    OthersCame (me ∷ []) old new × (register_refusal new me (next_child new) mode ≡ Some refusal)

-- for the code: a seat whose task has left
pub record LeavesSeat {K : Type 0} (allows : K → Allows) (terms : Terms K) (me : ℕ) (old : History)
    (v : View) : Type 0 where
  pub before : History
  pub others : OthersCame (me ∷ []) old before
  pub rests : v ≡ resting (Dropped me ∷ before) (me ∷ [])
  pub good : IsGoodAt allows terms (Dropped me ∷ before)

-- a wait right after, where one is asked for. Where it got nothing, nothing came, and none was
-- asked for or it has no answer there but a refusal
abbrev pub MayWait : Bool → (List ℤ → Outcome) → Limits → ℕ → History → History → Option Got
    → Type 0
MayWait true value limits me old new (Some got) = Waits value limits me old new (Ok got)
MayWait false value limits me old new (Some got) = ⊥
MayWait true value limits me old new None =
    (new ≡ old) × IsErr (wait_reply value limits old me)
MayWait false value limits me old new None = new ≡ old

-- an accepted signal, up to the middle, and then such a wait
pub record HasSignalledAndMayWait {A : Type 0} (asked : Bool) (op : Operation A) (limits : Limits)
    (me : ℕ) (held : Parcel A) (single : Option Single) (old new : History)
    (answer : ℕ × Option Got) : Type 0 where
  pub middle : History
  pub signals : Signals op limits me held single old middle (Ok answer.0)
  pub waits : MayWait asked op.value limits me middle new answer.1

-- the same, or the signal is refused, and then there is no wait
abbrev pub SignalsAndMayWait : {A : Type 0} → Bool → Operation A → Limits → ℕ → Parcel A
    → Option Single → History → History → Result (ℕ × Option Got) SignalRefusal → Type 0
SignalsAndMayWait asked op limits me held single old new (Ok answer) =
    HasSignalledAndMayWait asked op limits me held single old new answer
SignalsAndMayWait asked op limits me held single old new (Err refusal) =
    Signals op limits me held single old new (Err refusal)

-- a try of a registration, of which `answered` says what it answered and what was seen by it. It
-- stays on its phaser, under its number and in its mode, and has seen a good history; it stands
-- where `after` says; it is never answered that it is no member, nor, where it is the only one that
-- it has seen, that the turn was another's
pub record IsTry {A K X R : Type 0} (allows : K → Allows) (terms : Terms K) (no_task : R)
    (after : Option X → Entry → Entry) (answered : Type 0) (old new : RegState A K)
    (result : Result X (Tried R)) : Type 0 where
  pub call : answered
  pub entry : new.entry ≡ after (result_ok result) old.entry
  pub mode : new.entry.mode ≡ old.entry.mode
  pub at : (new.at ≡ old.at) × (new.number ≡ old.number)
  pub good : IsGoodAt allows terms new.seen
  pub known : result ≢ Err (Refused no_task)
  pub alone : OnlyUsed (old.number ∷ []) old.seen → result ≢ Err Busy

-- a call of a registration that may wait, in the same way
pub record IsCall {A K X E : Type 0} (allows : K → Allows) (terms : Terms K) (no_task : E)
    (after : Option X → Entry → Entry) (answered : Type 0) (old new : RegState A K)
    (result : Result X E) : Type 0 where
  pub call : answered
  pub entry : new.entry ≡ after (result_ok result) old.entry
  pub mode : new.entry.mode ≡ old.entry.mode
  pub at : (new.at ≡ old.at) × (new.number ≡ old.number)
  pub good : IsGoodAt allows terms new.seen
  pub known : result ≢ Err no_task

-- what is held after a call: no sends where it signalled, else what was held before
abbrev pub HeldAfter : {A : Type 0} → Operation A → Bool → Parcel A → Parcel A → Type 0
HeldAfter op true old new = StandsForSends op new [] × (new.count ≡ 0)
HeldAfter op false old new = new ≡ old

-- the child of an accepted registration, whose parent has then seen this: it is on the parent's
-- phaser and at the parent's phases, has seen what the parent has, and holds nothing
pub record IsChild {A K : Type 0} (op : Operation A) (mode : Mode) (old new child : RegState A K)
    : Type 0 where
  pub registered : HasRegistered old.number child.number mode old.seen new.seen
  pub at : child.at ≡ old.at
  pub seen : child.seen ≡ new.seen
  pub entry : child.entry ≡ entry_at mode old.entry.signal_phase old.entry.wait_phase
  pub none_held : StandsForSends op child.held [] × (child.held.count ≡ 0)

-- a registration: a child, or the refusal
abbrev pub Registers : {A K : Type 0} → Operation A → Mode → RegState A K → RegState A K
    → Result (RegState A K) RegisterRefusal → Type 0
Registers op mode old new (Ok child) = IsChild op mode old new child
Registers op mode old new (Err refusal) =
    RefusesRegister old.number mode old.seen new.seen refusal

-- a drop: events of others, and then its event
pub record Leaves (me : ℕ) (old new : History) : Type 0 where
  pub before : History
  pub others : OthersCame (me ∷ []) old before
  pub seen : new ≡ Dropped me ∷ before

-- whatever the others do, the phaser's rule allows a signal of the sends that are held
abbrev pub MaySignal : {A K : Type 0} → Operation A → (K → Allows) → Terms K → RegState A K
    → Option Single → Type 0
MaySignal op allows terms reg single =
    (h : History) (sends : List ℤ) → IsGoodAt allows terms h
    → OthersCame (reg.number ∷ []) reg.seen h → StandsForSends op reg.held sends
    → allows terms.rule h reg.number (sends ∷ []) single
