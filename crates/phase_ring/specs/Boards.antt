-- What holds of a board between any two steps of a call, while a waiter is registered.
use Rattle.std.specs.Prelude.{◌≡◌, ℕ, ◌+◌, ◌<◌, ◌≤◌, Some, length, nat_lt}
use Rattle.phase_base.specs.declared.limits.TheConstants.{PHASES_MAX}
use Rattle.phase_accum.specs.Operations.{Operation}
use Rattle.phase_ring.specs.declared.board.Board.{Board}
use Rattle.phase_ring.specs.declared.role.Role.TheVariants.{Signaller, Waiter}
use Rattle.phase_ring.specs.Slots.{Slot, IsUnused}
use Rattle.phase_ring.specs.Rings.{Ring, slot_at, standing}

-- each slot is sealed where its phase is below done
abbrev pub SealedBelow : {A : Type 0} → Ring A → ℕ → Type 0
SealedBelow {A} r done = (p : ℕ) (slot : Slot A)
    → r.base ≤ p → slot_at r p ≡ Some slot → slot.sealed ≡ nat_lt p done

-- no signal has joined a slot from the top on
abbrev pub UnusedFrom : {A : Type 0} → Operation A → Ring A → ℕ → Type 0
UnusedFrom {A} op r top = (p : ℕ) (slot : Slot A)
    → r.base ≤ p → slot_at r p ≡ Some slot → top ≤ p → IsUnused op slot

-- the ring has bound + 1 slots from the base on, with done and the top among their phases; the
-- signallers stand from done to the top, and the waiters up to done
pub record IsRingAt {A : Type 0} (op : Operation A) (r : Ring A) (bound done top : ℕ) : Type 0 where
  pub long : length r.slots ≡ bound + 1
  pub base_done : r.base ≤ done
  pub done_top : done ≤ top
  pub top_bound : top ≤ r.base + bound
  pub top_far : top ≤ PHASES_MAX
  pub signals_low : (p : ℕ) → p < done → standing r Signaller p ≡ 0
  pub signals_high : (p : ℕ) → top < p → standing r Signaller p ≡ 0
  pub waits_high : (p : ℕ) → done < p → standing r Waiter p ≡ 0
  pub sealed_below : SealedBelow r done
  pub unused : UnusedFrom op r top

-- the same of a board's own ring, bound, done and top
abbrev pub IsBoard : {A : Type 0} → Operation A → Board A → Type 0
IsBoard op board = IsRingAt op board.ring board.limits.bound board.done board.top
