-- A wait under the turn.
use Rattle.std.proofs.Common.{◌≡◌, ℕ, ℤ, Bool, true, false, List, [], ◌∷◌, Some, refl, sym, ap, subst, ◌∙◌}
use Rattle.std.specs.Prelude.{Ok, Err, Result, is_some, IsErr}
use Rattle.std.specs.Result.{result_ok}
use Rattle.phase_shared.specs.Phasers.{Operation, Got, WaitRefusal, entry_of, waited, History, members_of, wait_reply, after_wait, CoreState, StandsFor, Entry, Limits, Outcome}
use Rattle.phase_history.specs.declared.event.Event.TheVariants.{Waited}
use Rattle.phase_history.specs.declared.got.Got.TheVariants as got
use Rattle.phase_history.proofs.MemberLemmas.{is_some-entry_of-changed, entry_of-changed_same}
use Rattle.phase_shared.specs.Entries.{entry_after_wait}
use Rattle.phase_shared.specs.Rule.{Allows, Keeps}
use Rattle.phase_shared.specs.Calls.{MayWait}
use Rattle.phase_history.proofs.OthersEvents.{OthersCame-refl}
use Rattle.phase_shared.proofs.Giving.{OwnCame, own_event}

-- what a wait adds is its task's own
pub own_wait : (me : ℕ) (old new : History) (answer : Result Got WaitRefusal) → OwnCame me old new → OwnCame me old (after_wait answer me new)
own_wait me old new (Ok (got.Value phase outcome)) came = own_event me old new (Waited me 1) (λ t. refl) came
own_wait me old new (Ok got.Ended) came = came
own_wait me old new (Err refusal) came = came

-- a wait owes the phaser's rule nothing
pub keeps_wait : (allows : Allows) (me : ℕ) (h : History) (answer : Result Got WaitRefusal) → Keeps allows h → Keeps allows (after_wait answer me h)
keeps_wait allows me h (Ok (got.Value phase outcome)) keeps = keeps
keeps_wait allows me h (Ok got.Ended) keeps = keeps
keeps_wait allows me h (Err refusal) keeps = keeps

-- a wait under its signal's turn
pub may_wait : (asked : Bool) (value : List ℤ → Outcome) (limits : Limits) (me : ℕ) (middle new : History) (answer : Result Got WaitRefusal)
    → new ≡ after_wait answer me middle → (asked ≡ true → wait_reply value limits middle me ≡ answer) → (asked ≡ false → IsErr answer)
    → MayWait asked value limits me middle new (result_ok answer)
may_wait true value limits me middle new (Ok got) seen reply none = record { before = middle; others = OthersCame-refl (me ∷ []) middle; seen = seen; reply = reply refl }
may_wait false value limits me middle new (Ok got) seen reply none = absurd (let z : false ≡ true = none refl in cc)
may_wait true value limits me middle new (Err refusal) seen reply none =
    (seen, subst (λ (r : Result Got WaitRefusal). IsErr r) (sym (reply refl)) refl)
may_wait false value limits me middle new (Err refusal) seen reply none = seen

-- after a wait the task is a member, whatever was answered
pub member_after_wait : {A : Type 0} (op : Operation A) (x : CoreState A) (r : Result Got WaitRefusal) (me : ℕ) (now : History)
    → StandsFor op x (after_wait r me now) → is_some (entry_of (members_of now) me) ≡ true → is_some (entry_of x.members me) ≡ true
member_after_wait op x (Ok (got.Value phase outcome)) me now stands some =
    ap (λ ms. is_some (entry_of ms me)) stands.members_are
    ∙ is_some-entry_of-changed me me (waited 1) (members_of now) ∙ some
member_after_wait op x (Ok got.Ended) me now stands some = ap (λ ms. is_some (entry_of ms me)) stands.members_are ∙ some
member_after_wait op x (Err refusal) me now stands some = ap (λ ms. is_some (entry_of ms me)) stands.members_are ∙ some

-- where a task stands after a wait
pub member_waits : (me : ℕ) (h : History) (entry : Entry) (answer : Result Got WaitRefusal) → entry_of (members_of h) me ≡ Some entry
    → entry_of (members_of (after_wait answer me h)) me ≡ Some (entry_after_wait (result_ok answer) entry)
member_waits me h entry (Ok (got.Value phase outcome)) there = entry_of-changed_same me (waited 1) entry (members_of h) there
member_waits me h entry (Ok got.Ended) there = there
member_waits me h entry (Err refusal) there = there
