-- The registered tasks, and which numbers were used.
use Rattle.std.specs.Prelude.{◌≡◌, ℕ, ◌+◌, ◌^◌, ◌-◌, ◌<◌, ◌≤◌, [], ◌∷◌, ◌++◌, Option, Some, None, Bool, true, false, length, slice_index_or, if◌then◌else◌, nat_lt, nat_le}
use Rattle.phase_base.specs.declared.limits.TheConstants.{MEMBERS_MAX}
use Rattle.phase_base.specs.declared.mode.Mode.TheVariants.{Sig}
use Rattle.phase_base.specs.declared.entry.Entry.{Entry}
use Rattle.phase_base.specs.Members.{Members, member, signal_phases, wait_phases}
use Rattle.phase_registry.specs.declared.refusal.AddRefusal.{AddRefusal}
use Rattle.phase_registry.specs.declared.refusal.AddRefusal.TheVariants.{NotNew, TooManyTasks}

-- the members, and the greatest number that was ever used, where one was
pub record Roster : Type 0 where
  pub members : Members
  pub greatest : Option ℕ

-- these two as a roster
abbrev pub roster : Members → Option ℕ → Roster
roster members greatest = record { members = members; greatest = greatest }

-- whether the number is at most the greatest that was used
abbrev pub is_used : Option ℕ → ℕ → Bool
is_used None number = false
is_used (Some greatest) number = nat_le number greatest

-- why the number is not added, the first reason that applies
abbrev pub add_refusal : Roster → ℕ → Option AddRefusal
add_refusal r number =
    if is_used r.greatest number
    then Some NotNew
    else if nat_le MEMBERS_MAX (length r.members) then Some TooManyTasks else None

-- the roster with one more member, behind the others
abbrev pub added : ℕ → Entry → Roster → Roster
added number entry r = roster (r.members ++ member number entry ∷ []) (Some number)

-- the number above the greatest that was used, where a task number is left
abbrev pub next_after : Option ℕ → Option ℕ
next_after None = Some 0
next_after (Some greatest) = if nat_lt greatest (2 ^ 64 - 1) then Some (greatest + 1) else None

-- ---- the order of the members

-- an entry that nobody looks at
abbrev pub nobody : Entry
nobody = record { mode = Sig; signal_phase = 0; wait_phase = 0 }

-- the number of the member at a place
abbrev pub number_at : Members → ℕ → ℕ
number_at members i = let found = slice_index_or members i (member 0 nobody) in found.task

-- each member's number is below those of the later ones
abbrev pub AreRising : Members → Type 0
AreRising members =
    (i j : ℕ) → i < j → j < length members → number_at members i < number_at members j

-- for the code: the members rise, all are among the used numbers, no more than may be, and these
-- are the numbers of signallers and of waiters
pub record IsRoster (members : Members) (greatest : Option ℕ) (signallers waiters : ℕ)
    : Type 0 where
  pub rising : AreRising members
  pub used : (i : ℕ) → i < length members → is_used greatest (number_at members i) ≡ true
  pub few : length members ≤ MEMBERS_MAX
  pub signallers_are : signallers ≡ length (signal_phases members)
  pub waiters_are : waiters ≡ length (wait_phases members)
