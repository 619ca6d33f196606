-- What a call of a board asks of it, and what it leaves.
use Rattle.std.specs.Prelude.{◌≡◌, ℕ, ◌+◌, ◌<◌, ◌≤◌, ◌⊎◌, max}
use Rattle.phase_base.specs.declared.entry.Entry.{Entry}
use Rattle.phase_base.specs.declared.limits.TheConstants.{MEMBERS_MAX, PHASES_MAX}
use Rattle.phase_ring.specs.declared.board.Board.{Board}
use Rattle.phase_ring.specs.declared.role.Role.{Role}
use Rattle.phase_ring.specs.declared.role.Role.TheVariants.{Signaller, Waiter}
use Rattle.phase_ring.specs.Rings.{Ring, standing}
use Rattle.phase_ring.specs.Standings.{one_if_same, other, counted}

-- ---- before a call

-- a signaller stands at the first of some phases, all within the bound, and there is room for it
-- at the phase behind them
pub record MaySignal {A : Type 0} (from to : ℕ) (board : Board A) : Type 0 where
  pub low : board.done ≤ from
  pub later : from < to
  pub ahead : to ≤ board.ring.base + board.limits.bound
  pub far : to ≤ PHASES_MAX
  pub stands : 0 < standing board.ring Signaller from
  pub few : standing board.ring Signaller to < MEMBERS_MAX

-- a waiter stands at the first of some phases, all complete, and there is room for it at the phase
-- behind them
pub record MayWait {A : Type 0} (from to : ℕ) (board : Board A) : Type 0 where
  pub later : from < to
  pub complete : to ≤ board.done
  pub stands : 0 < standing board.ring Waiter from
  pub few : standing board.ring Waiter to < MEMBERS_MAX

-- ---- after it

-- the first phase that is not complete is the first at which a signaller stands, or the top
abbrev pub IsSettled : {A : Type 0} → Board A → Type 0
IsSettled board = (board.done ≡ board.top) ⊎ (0 < standing board.ring Signaller board.done)

-- the limits, the first phase that is not complete and the top stay
pub record KeepsBounds {A : Type 0} (old new : Board A) : Type 0 where
  pub limits : new.limits ≡ old.limits
  pub done : new.done ≡ old.done
  pub top : new.top ≡ old.top

-- one of the role has gone from a phase to another, and nobody else has moved
pub record HasMoved {A : Type 0} (role : Role) (from to : ℕ) (old new : Ring A) : Type 0 where
  pub moved : (p : ℕ)
      → standing new role p + one_if_same from p ≡ standing old role p + one_if_same to p
  pub others : (p : ℕ) → standing new (other role) p ≡ standing old (other role) p

-- a signaller has gone on over the phases that it signalled, and the top is not below it
pub record HasSignalled {A : Type 0} (from to : ℕ) (old new : Board A) : Type 0 where
  pub limits : new.limits ≡ old.limits
  pub base : new.ring.base ≡ old.ring.base
  pub top : new.top ≡ max old.top to
  pub moves : HasMoved Signaller from to old.ring new.ring

-- a waiter has gone on over the phases that it got, and the bounds stay
pub record HasWaited {A : Type 0} (from to : ℕ) (old new : Board A) : Type 0 where
  pub keeps : KeepsBounds old new
  pub moves : HasMoved Waiter from to old.ring new.ring

-- one task stands in each role, at this phase
abbrev pub StandsAlone : {A : Type 0} → ℕ → Board A → Type 0
StandsAlone phase board = (role : Role) (p : ℕ) → standing board.ring role p ≡ one_if_same phase p

-- the first phase that is kept was completed, and is kept no more
pub record HasPassed {A : Type 0} (old new : Board A) : Type 0 where
  pub limits : new.limits ≡ old.limits
  pub base : new.ring.base ≡ old.ring.base + 1
  pub done : new.done ≡ new.ring.base
  pub top : new.top ≡ new.ring.base

-- a task with the entry stands nowhere any more, and the limits and the top stay
pub record HasLeftBoard {A : Type 0} (entry : Entry) (old new : Board A) : Type 0 where
  pub limits : new.limits ≡ old.limits
  pub top : new.top ≡ old.top
  pub stands : (role : Role) (p : ℕ)
      → standing new.ring role p + counted role entry p ≡ standing old.ring role p
