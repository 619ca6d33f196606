-- Phases of one send each, of which the values alone are kept.
use Rattle.std.specs.Prelude.{◌≡◌, ℕ, ℤ, ◌+◌, ◌-◌, ◌≤◌, List, [], ◌∷◌, ◌++◌, Some, None, IsSome, length, map, replicate, unwrap_or}
use Rattle.std.specs.List.{All}
use Rattle.phase_accum.specs.Operations.{Operation}
use Rattle.phase_accum.specs.Sends.{AreSends}
use Rattle.phase_history.specs.Histories.{History}
use Rattle.phase_base.specs.Limits.{Limits}
use Rattle.phase_base.specs.declared.limits.TheConstants.{PHASES_MAX}
use Rattle.phase_base.specs.Members.{least, signal_phases, wait_phases}
use Rattle.phase_registry.specs.Rosters.{Roster}
use Rattle.phase_core.specs.Slots.{KeptSlot}
use Rattle.phase_core.specs.Cores.{CoreState, StandsFor}

-- what is kept of a phase of this one send and no single
abbrev pub plain_slot : {A : Type 0} → Operation A → ℤ → KeptSlot A
plain_slot op v = record { part = op.of v; count = 1; named = Some None }

-- what is kept of a phase that no signal has joined
abbrev pub unused_slot : {A : Type 0} → Operation A → KeptSlot A
unused_slot op = record { part = op.unit; count = 0; named = None }

-- a registry, limits, and the values of the phases from the base to the top, as a core
abbrev pub plain_core : {A : Type 0} → Operation A → Roster → Limits → ℕ → List ℤ → CoreState A
plain_core op r limits base values = record {
  limits = limits;
  members = r.members;
  greatest = unwrap_or r.greatest 0;
  top = base + length values;
  base = base;
  slots = map (plain_slot op) values
      ++ replicate (limits.bound + 1 - length values) (unused_slot op);
}

-- these values are all that is kept of the phases from the slowest waiter's on, and the one task
-- that signals has signalled all of them
pub record IsPlain {A : Type 0} (op : Operation A) (r : Roster) (limits : Limits) (base : ℕ)
    (values : List ℤ) : Type 0 where
  pub history : History
  pub stands : StandsFor op (plain_core op r limits base values) history
  pub alone : signal_phases r.members ≡ (base + length values) ∷ []
  pub slowest : least (wait_phases r.members) ≡ Some base
  pub low : All (λ w. w ≤ base + length values) (wait_phases r.members)
  pub near : length values ≤ limits.bound
  pub far : base + length values ≤ PHASES_MAX
  pub sends : AreSends values
  pub used : IsSome r.greatest
