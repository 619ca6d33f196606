-- A signal under the turn.
use Rattle.std.proofs.Common.{◌≡◌, ℕ, ℤ, true, List, [], ◌∷◌, Option, Some, ◌∙◌}
use Rattle.std.specs.Prelude.{Result, is_some}
use Rattle.phase_shared.specs.Phasers.{Single, entry_of, signalled, History, members_of, Entry, WaitRefusal, after_wait, Got}
use Rattle.phase_history.specs.declared.event.Event.TheVariants.{Signalled}
use Rattle.std.specs.Result.{result_ok}
use Rattle.phase_history.proofs.MemberLemmas.{is_some-entry_of-changed, entry_of-changed_same}
use Rattle.phase_shared.specs.Entries.{entry_after_wait}
use Rattle.phase_shared.proofs.WaitSteps.{member_waits}

-- a task that signals stays a member
pub member_signals : (me : ℕ) (sends : List ℤ) (single : Option Single) (now : History)
    → is_some (entry_of (members_of now) me) ≡ true → is_some (entry_of (members_of (Signalled me (sends ∷ []) single ∷ now)) me) ≡ true
member_signals me sends single now some = is_some-entry_of-changed me me (signalled 1) (members_of now) ∙ some

-- where it stands after its signal, and a wait under its turn
pub member_signals_and_waits : (me : ℕ) (sends : List ℤ) (single : Option Single) (now : History) (entry : Entry) (waited : Result Got WaitRefusal)
    → entry_of (members_of now) me ≡ Some entry
    → entry_of (members_of (after_wait waited me (Signalled me (sends ∷ []) single ∷ now))) me ≡ Some (entry_after_wait (result_ok waited) (signalled 1 entry))
member_signals_and_waits me sends single now entry waited there =
    member_waits me (Signalled me (sends ∷ []) single ∷ now) (signalled 1 entry) waited (entry_of-changed_same me (signalled 1) entry (members_of now) there)
