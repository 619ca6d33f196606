-- Blocks of phases: what their sends are, and the rows of a block's signals by the ring.
use Rattle.std.specs.Prelude.{◌≡◌, ℕ, ◌+◌, ◌≤◌, ℤ, List, [], ◌∷◌, ◌++◌, length, map, Option, Some, None, Bool, Result, Ok, Err, drop, slice_range}
use Rattle.std.specs.List.{take_while}
use Rattle.phase_base.specs.Limits.{Limits}
use Rattle.phase_base.specs.declared.entry.Entry.{Entry}
use Rattle.phase_base.specs.Members.{signalled}
use Rattle.phase_accum.specs.declared.single.Single.{Single}
use Rattle.phase_accum.specs.Operations.{Operation}
use Rattle.phase_accum.specs.Parcels.{Parcel, StandsForSends}
use Rattle.phase_accum.specs.declared.outcome.Outcome.{Outcome}
use Rattle.phase_history.specs.declared.got.GotBlock.{GotBlock}
use Rattle.phase_history.specs.declared.got.GotBlock.TheVariants as got
use Rattle.phase_history.specs.declared.refusal.WaitRefusal.{WaitRefusal}
use Rattle.phase_history.specs.declared.refusal.SignalRefusal.{SignalRefusal}
use Rattle.phase_history.specs.Refusals.{phase_rows}
use Rattle.phase_ring.specs.Slots.{Slot}
use Rattle.phase_ring.specs.Rings.{Ring, slot_at}
use Rattle.phase_ring.specs.Boards.{IsRingAt}
pub use Rattle.phase_ring.specs.Blocks.{is_not_too_big}

-- these lists of sends are held, a list by each parcel
abbrev pub StandForLists : {A : Type 0} → Operation A → List (Parcel A) → List (List ℤ) → Type 0
StandForLists op [] [] = Unit {0}
StandForLists op [] (sends ∷ lists) = ⊥
StandForLists op (held ∷ more) [] = ⊥
StandForLists op (held ∷ more) (sends ∷ lists) =
    StandsForSends op held sends × StandForLists op more lists

-- a list of one send for each value
abbrev pub one_each : List ℤ → List (List ℤ)
one_each values = map (λ value. value ∷ []) values

-- what the first signal of a slot's phase named, and how many sends the phase has
abbrev pub named_at : {A : Type 0} → Option (Slot A) → Option (Option Single)
named_at None = None
named_at (Some slot) = slot.named

-- how many sends a slot has, and 0 where there is none
abbrev pub count_at : {A : Type 0} → Option (Slot A) → ℕ
count_at None = 0
count_at (Some slot) = slot.count

-- the rows of signals phase by phase, the first the entry's, by what the ring's slots have
abbrev pub block_rows : {A : Type 0} → Limits → Option ℕ → Ring A → List (Parcel A) → Option Single
    → Entry → List (Bool × SignalRefusal)
block_rows limits slowest r [] single entry = []
block_rows limits slowest r (held ∷ more) single entry =
    phase_rows limits slowest (count_at (slot_at r entry.signal_phase))
    (named_at (slot_at r entry.signal_phase)) held.count single entry
    ++ block_rows limits slowest r more single (signalled 1 entry)

-- while a waiter is registered: the ring is kept from the slowest waiter's phase on, and the phase
-- is not complete
pub record IsOpen {A : Type 0} (op : Operation A) (r : Ring A) (bound done top : ℕ)
    (slowest : Option ℕ) (phase : ℕ)
    : Type 0 where
  pub kept : IsRingAt op r bound done top
  pub slowest_is : slowest ≡ Some r.base
  pub low : done ≤ phase

-- what stands in the places of a wait for a block: what it was answered, and behind that what
-- stood there
abbrev pub written : Result GotBlock WaitRefusal → List Outcome → List Outcome → List Outcome
written (Ok (got.Values phase count)) stream old =
    slice_range stream phase (phase + count) ++ drop count old
written (Ok got.Ended) stream old = old
written (Err refusal) stream old = old

-- ---- the values in range that come next

-- how many do, where a wait for a block would be answered this: those before the first that is too
-- big
abbrev pub before_too_big : List Outcome → Result GotBlock WaitRefusal
    → Result GotBlock WaitRefusal
before_too_big stream (Ok (got.Values phase count)) =
    let values = slice_range stream phase (phase + count) in
    Ok (got.Values phase (length (take_while is_not_too_big values)))
before_too_big stream reply = reply
