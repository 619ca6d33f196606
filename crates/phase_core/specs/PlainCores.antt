-- A phaser that keeps slots, or values alone.
use Rattle.std.specs.Prelude.{◌≡◌, ℕ, ◌+◌, ◌-◌, ◌≤◌, Some, true, false, drop, length}
use Rattle.circular_buffer.specs.Buffer.{buffer}
use Rattle.phase_accum.specs.Operations.{Operation}
use Rattle.phase_base.specs.declared.entry.Entry.{Entry}
use Rattle.phase_base.specs.declared.limits.TheConstants.{PHASES_MAX}
use Rattle.phase_base.specs.Modes.{mode_waits}
use Rattle.phase_base.specs.Members.{changed_at, entry_of, least, wait_phases, waited}
use Rattle.phase_registry.specs.Rosters.{Roster, roster}
use Rattle.phase_ring.specs.declared.store.Store.{Store}
use Rattle.phase_ring.specs.Stores.{KeepsValues, board_shown}
use Rattle.phase_core.specs.Cores.{CoreState, IsCore, core_of}
use Rattle.phase_core.specs.Plain.{IsPlain}

-- what it keeps, as slots in either case
abbrev pub core_shown : {A : Type 0} → Operation A → Roster → Store A → CoreState A
core_shown op r store = core_of r (board_shown op store)

-- for the code: values that are kept alone are all that is kept, there is room for as many as the
-- bound says, and there are slots to take their place
pub record IsPlainStore {A : Type 0} (op : Operation A) (r : Roster) (store : Store A)
    : Type 0 where
  pub plain : IsPlain op r store.board.limits store.values.base store.values.queue.items
  pub keeps : KeepsValues store
  pub room : store.values.queue.capacity ≡ store.board.limits.bound
  pub long : length store.board.ring.slots ≡ store.board.limits.bound + 1

-- for the code: the members and what is kept of the phases agree
pub record IsPhaser {A : Type 0} (op : Operation A) (r : Roster) (store : Store A) : Type 0 where
  pub slots : store.is_plain ≡ false → IsCore op r store.board
  pub values : store.is_plain ≡ true → IsPlainStore op r store

-- ---- waits

-- the task waits, and so many phases from its own on are complete
pub record MayPassPhases {A : Type 0} (r : Roster) (store : Store A) (task phases : ℕ) (e : Entry)
    : Type 0 where
  pub found : entry_of r.members task ≡ Some e
  pub waits : mode_waits e.mode ≡ true
  pub complete : e.wait_phase + phases ≤ store.board.top
  pub far : store.board.top ≤ PHASES_MAX
  pub slowest : store.is_plain ≡ true → least (wait_phases r.members) ≡ Some store.values.base
  pub values : store.is_plain ≡ true → KeepsValues store

-- it went on over them, and the values are kept that some waiter has still to get
pub record HasGoneOn {A : Type 0} (r new_r : Roster) (old new : Store A) (task phases : ℕ)
    : Type 0 where
  pub registry : new_r ≡ roster (changed_at task (waited phases) r.members) r.greatest
  pub board : new.board ≡ old.board
  pub plain : new.is_plain ≡ old.is_plain
  pub slowest : old.is_plain ≡ true → least (wait_phases new_r.members) ≡ Some new.values.base
  pub low : old.values.base ≤ new.values.base
  pub high : old.is_plain ≡ true → new.values.base ≤ old.board.top
  pub values : new.values.queue
      ≡ buffer (drop (new.values.base - old.values.base) old.values.queue.items)
      old.values.queue.capacity
