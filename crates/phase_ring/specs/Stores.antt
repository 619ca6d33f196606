-- The phases that are kept, as slots or as values alone.
use Rattle.std.specs.Prelude.{◌≡◌, ℕ, ◌+◌, ◌<◌, ◌≤◌, true, false, length, if◌then◌else◌}
use Rattle.phase_accum.specs.Operations.{Operation}
use Rattle.phase_accum.specs.Sends.{AreSends}
use Rattle.phase_base.specs.declared.limits.TheConstants.{PHASES_MAX}
use Rattle.phase_ring.specs.declared.board.Board.{Board}
use Rattle.phase_ring.specs.declared.role.Role.TheVariants.{Waiter}
use Rattle.phase_ring.specs.declared.store.Store.{Store}
use Rattle.phase_ring.specs.Boards.{IsBoard}
use Rattle.phase_ring.specs.Calls.{MayWait, HasWaited}
use Rattle.phase_ring.specs.Restarts.{ring_of_ones}
use Rattle.phase_ring.specs.Rings.{Ring, KeepsSlots, sents, standing}

-- what is kept of the phases, as slots: those of the sends where they alone are kept
abbrev pub ring_of : {A : Type 0} → Operation A → Store A → Ring A
ring_of op store =
    if store.is_plain
    then ring_of_ones op (store.board.limits.bound + 1) store.values.base store.values.queue.items
    else store.board.ring

-- the board of these slots
abbrev pub board_shown : {A : Type 0} → Operation A → Store A → Board A
board_shown op store = record {
  limits = store.board.limits;
  ring = ring_of op store;
  done = store.board.done;
  top = store.board.top;
}

-- the sends are those of the phases from the base to the top, all of which are complete, and within
-- the bound
pub record KeepsValues {A : Type 0} (store : Store A) : Type 0 where
  pub sends : AreSends store.values.queue.items
  pub near : length store.values.queue.items ≤ store.board.limits.bound
  pub far : store.board.top ≤ PHASES_MAX
  pub top_is : store.board.top ≡ store.values.base + length store.values.queue.items
  pub done_is : store.board.done ≡ store.board.top

-- what holds of either between any two steps of a call, while a waiter is registered
pub record IsStore {A : Type 0} (op : Operation A) (store : Store A) : Type 0 where
  pub slots : store.is_plain ≡ false → IsBoard op store.board
  pub values : store.is_plain ≡ true → KeepsValues store

-- ---- waits

-- some phases from this one of a waiter on are complete, and the slots allow a wait for them
pub record MayGet {A : Type 0} (from to : ℕ) (store : Store A) : Type 0 where
  pub complete : to ≤ store.board.done
  pub slots : store.is_plain ≡ false → MayWait from to store.board
  pub values : store.is_plain ≡ true → store.values.base ≤ from

-- a waiter has gone on over the phases that it got, and the slots are kept that some waiter has
-- still to get
pub record GoesOnSlots {A : Type 0} (op : Operation A) (from to : ℕ) (old new : Board A)
    : Type 0 where
  pub invariant : IsBoard op new
  pub waited : HasWaited from to old new
  pub slots : KeepsSlots (sents old.ring) (sents new.ring)
  pub stops : 0 < standing new.ring Waiter new.ring.base

-- on slots a waiter has gone on, and sends that are kept alone stay as they are
pub record GotFrom {A : Type 0} (op : Operation A) (from to : ℕ) (old new : Store A) : Type 0 where
  pub same : new.is_plain ≡ old.is_plain
  pub slots : old.is_plain ≡ false → GoesOnSlots op from to old.board new.board
  pub values : old.is_plain ≡ true → new ≡ old
