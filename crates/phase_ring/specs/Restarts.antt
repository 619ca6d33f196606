-- The slots of phases in a row of which each is complete and has one send.
use Rattle.std.specs.Prelude.{ℕ, ℤ, ◌-◌, ◌≤◌, List, ◌++◌, Some, None, true, length, map, replicate}
use Rattle.phase_accum.specs.Operations.{Operation}
use Rattle.phase_accum.specs.declared.outcome.Outcome.{Outcome}
use Rattle.phase_ring.specs.declared.board.Board.{Board}
use Rattle.phase_ring.specs.declared.role.Role.{Role}
use Rattle.phase_ring.specs.declared.role.Role.TheVariants.{Signaller, Waiter}
use Rattle.phase_ring.specs.Slots.{Slot, empty_slot}
use Rattle.phase_ring.specs.Rings.{Ring, ring}

-- the slot of a complete phase of this one send, whose signal named no single, and at which nobody
-- stands
abbrev pub one_slot : {A : Type 0} → Operation A → ℤ → Slot A
one_slot op value = record {
  part = op.of value;
  count = 1;
  named = Some None;
  sealed = true;
  signallers = 0;
  waiters = 0;
}

-- the value of such a phase
abbrev pub plain_value : {A : Type 0} → Operation A → ℤ → Outcome
plain_value op v = op.finish (op.of v)

-- so many slots, the first of the phase `base`: one for each of these values, and empty ones behind
abbrev pub ring_of_ones : {A : Type 0} → Operation A → ℕ → ℕ → List ℤ → Ring A
ring_of_ones op size base values =
    ring base (map (one_slot op) values ++ replicate (size - length values) (empty_slot op))

-- somebody may stand at the phase in the role: a signaller from the first phase that is not
-- complete to the top, a waiter from the first that is kept up to the first that is not complete
abbrev pub MayBePlaced : {A : Type 0} → Role → ℕ → Board A → Type 0
MayBePlaced Signaller p board = (board.done ≤ p) × (p ≤ board.top)
MayBePlaced Waiter p board = (board.ring.base ≤ p) × (p ≤ board.done)
