-- What a core keeps, and the histories that it stands for.
use Rattle.std.specs.Prelude.{◌≡◌, ℕ, ◌+◌, ◌<◌, ◌≤◌, ◌⊎◌, List, [], Some, IsSome, length, map, slice_get, unwrap_or}
use Rattle.phase_base.specs.Limits.{Limits}
use Rattle.phase_accum.specs.Operations.{Operation, IsPartOf}
use Rattle.phase_core.specs.Slots.{KeptSlot}
use Rattle.phase_base.specs.Members.{Members, signal_phases, wait_phases, least}
use Rattle.phase_history.specs.Histories.{History, members_of, top_of, greatest_used}
use Rattle.phase_history.specs.Phases.{sends_of_phase, named_in_phase}
use Rattle.phase_history.specs.Legal.{IsLegal}
use Rattle.phase_registry.specs.Rosters.{Roster}
use Rattle.phase_ring.specs.Slots.{Slot}
use Rattle.phase_ring.specs.declared.role.Role.TheVariants.{Signaller, Waiter}
use Rattle.phase_ring.specs.declared.board.Board.{Board}
use Rattle.phase_ring.specs.Rings.{Ring, standing}
use Rattle.phase_ring.specs.Standings.{count_of}
use Rattle.phase_ring.specs.Boards.{IsRingAt}

-- the limits, the members, the greatest number used, the top, and a slot for each phase from the
-- base on, as far as phases are kept
pub record CoreState (A : Type 0) : Type 0 where
  pub limits : Limits
  pub members : Members
  pub greatest : ℕ
  pub top : ℕ
  pub base : ℕ
  pub slots : List (KeptSlot A)

-- the slot has the part, the number and the single of the sends of phase p
pub record KeepsSends {A : Type 0} (op : Operation A) (slot : KeptSlot A) (h : History) (p : ℕ)
    : Type 0 where
  pub part_is : IsPartOf op slot.part (sends_of_phase h p)
  pub count_is : slot.count ≡ length (sends_of_phase h p)
  pub named_is : slot.named ≡ named_in_phase h p

-- the slot is that of phase p
pub record IsSlotOf {A : Type 0} (core : CoreState A) (p : ℕ) (slot : KeptSlot A) : Type 0 where
  pub place : ℕ
  pub place_is : core.base + place ≡ p
  pub found : slice_get core.slots place ≡ Some slot

-- phase p is kept
pub record KeepsPhase {A : Type 0} (op : Operation A) (core : CoreState A) (h : History) (p : ℕ)
    : Type 0 where
  pub slot : KeptSlot A
  pub is_slot : IsSlotOf core p slot
  pub keeps : KeepsSends op slot h p

-- the core represents the history (the abstraction relation): it is one that the history leaves.
-- While a waiter is registered, each phase from the least wait phase to the top is kept
pub record StandsFor {A : Type 0} (op : Operation A) (core : CoreState A) (h : History)
    : Type 0 where
  pub legal : IsLegal core.limits h
  pub members_are : core.members ≡ members_of h
  pub greatest_is : core.greatest ≡ greatest_used h
  pub top_is : core.top ≡ top_of h
  pub phases_are : (slowest p : ℕ) → least (wait_phases core.members) ≡ Some slowest
      → slowest ≤ p → p < core.top → KeepsPhase op core h p

-- ---- a core over a registry and a board

-- what a slot of the ring says of its phase
abbrev pub sent_of : {A : Type 0} → Slot A → KeptSlot A
sent_of slot = record { part = slot.part; count = slot.count; named = slot.named }

-- a registry, limits, a ring and the top as a core
abbrev pub core_with : {A : Type 0} → Roster → Limits → Ring A → ℕ → CoreState A
core_with r limits ring top = record {
  limits = limits;
  members = r.members;
  greatest = unwrap_or r.greatest 0;
  top = top;
  base = ring.base;
  slots = map sent_of ring.slots;
}

-- a registry and a board as a core
abbrev pub core_of : {A : Type 0} → Roster → Board A → CoreState A
core_of r board = core_with r board.limits board.ring board.top

-- while a waiter is registered, at the end of each call: the board is kept, done is the first
-- phase at which a signaller stands, or the top, a waiter stands at the base, and as many stand at
-- each phase as the members say
pub record IsBoarded {A : Type 0} (op : Operation A) (members : Members) (r : Ring A)
    (bound done top : ℕ) : Type 0 where
  pub kept : IsRingAt op r bound done top
  pub done_at : (done ≡ top) ⊎ (0 < standing r Signaller done)
  pub base_at : 0 < standing r Waiter r.base
  pub signallers_are : (p : ℕ) → standing r Signaller p ≡ count_of p (signal_phases members)
  pub waiters_are : (p : ℕ) → standing r Waiter p ≡ count_of p (wait_phases members)

-- for the code: the two stand for some history, and agree while a waiter is registered
pub record IsCore {A : Type 0} (op : Operation A) (r : Roster) (board : Board A) : Type 0 where
  pub history : History
  pub stands : StandsFor op (core_of r board) history
  pub boarded : (wait_phases r.members ≡ [])
      ⊎ IsBoarded op r.members board.ring board.limits.bound board.done board.top
  pub used : IsSome r.greatest
