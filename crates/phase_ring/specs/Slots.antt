-- What a ring keeps of one phase.
use Rattle.std.specs.Prelude.{◌≡◌, ℕ, ℤ, ◌+◌, List, Option, Some, None, Bool, true, false, if◌then◌else◌, nat_lt}
use Rattle.std.specs.Option.{option_and_then}
use Rattle.phase_base.specs.declared.limits.TheConstants.{SENDS_MAX}
use Rattle.phase_accum.specs.declared.outcome.Outcome.{Outcome}
use Rattle.phase_accum.specs.declared.single.Single.{Single}
use Rattle.phase_accum.specs.Singles.{differs}
use Rattle.phase_accum.specs.Values.{applied}
use Rattle.phase_accum.specs.Operations.{Operation}
use Rattle.phase_accum.specs.Parcels.{Parcel, parcel, StandsForSends}
use Rattle.phase_ring.specs.declared.slot.MergeRefusal.{MergeRefusal}
use Rattle.phase_ring.specs.declared.slot.MergeRefusal.TheVariants.{SingleDiffers, PhaseFull}
use Rattle.phase_ring.specs.declared.role.Role.{Role}
use Rattle.phase_ring.specs.declared.role.Role.TheVariants.{Signaller, Waiter}

-- the part and the number of the sends of a phase, what its first signal named (nothing yet where
-- there is none, no single, or one), whether it is complete, and how many of each role stand at it
pub record Slot (A : Type 0) : Type 0 where
  pub part : A
  pub count : ℕ
  pub named : Option (Option Single)
  pub sealed : Bool
  pub signallers : ℕ
  pub waiters : ℕ

-- the slot of a phase that no signal has joined, and at which nobody stands
abbrev pub empty_slot : {A : Type 0} → Operation A → Slot A
empty_slot op = record {
  part = op.unit;
  count = 0;
  named = None;
  sealed = false;
  signallers = 0;
  waiters = 0;
}

-- no signal has joined the phase
pub record IsUnused {A : Type 0} (op : Operation A) (slot : Slot A) : Type 0 where
  pub part_is : slot.part ≡ op.unit
  pub count_is : slot.count ≡ 0
  pub named_is : slot.named ≡ None

-- ---- sends

-- what the first of the signals of a phase named, after one more
abbrev pub first_of : Option (Option Single) → Option Single → Option (Option Single)
first_of (Some named) single = Some named
first_of None single = Some single

-- the slot after more sends have joined it
abbrev pub joined : {A : Type 0} → Operation A → Parcel A → Option Single → Slot A → Slot A
joined op held single slot = record slot {
  part = op.join slot.part held.part;
  count = slot.count + held.count;
  named = first_of slot.named single;
}

-- why so many more sends that name this do not join, the first reason that applies
abbrev pub merge_refusal : {A : Type 0} → Slot A → ℕ → Option Single → Option MergeRefusal
merge_refusal slot n single =
    if differs slot.named single
    then Some SingleDiffers
    else if nat_lt SENDS_MAX (slot.count + n) then Some PhaseFull else None

-- the slot stands for some sends
abbrev pub IsHeld : {A : Type 0} → Operation A → Slot A → Type 0
IsHeld op slot = (sends : List ℤ) × StandsForSends op (parcel slot.part slot.count) sends

-- the value of the phase: that of its part, with the single that its first signal named
abbrev pub slot_value : {A : Type 0} → Operation A → Slot A → Outcome
slot_value op slot = applied (option_and_then (λ named. named) slot.named) (op.finish slot.part)

-- the slot where the phase is complete
abbrev pub sealed : {A : Type 0} → Slot A → Slot A
sealed slot = record slot { sealed = true }

-- ---- who stands there

-- how many of a role stand at the phase
abbrev pub standing_of : {A : Type 0} → Role → Slot A → ℕ
standing_of Signaller slot = slot.signallers
standing_of Waiter slot = slot.waiters

-- the slot where so many of a role stand
abbrev pub with_standing : {A : Type 0} → Role → ℕ → Slot A → Slot A
with_standing Signaller n slot = record slot { signallers = n }
with_standing Waiter n slot = record slot { waiters = n }

-- the slot but for whether it is sealed, and who stands there
abbrev pub sent : {A : Type 0} → Slot A → Slot A
sent slot = record slot { sealed = false; signallers = 0; waiters = 0 }
