-- What a board asks of the call that moves a signaller on.
use Rattle.std.specs.Prelude.{ℕ, ◌<◌, ◌≤◌}
use Rattle.phase_base.specs.declared.limits.TheConstants.{MEMBERS_MAX}
use Rattle.phase_ring.specs.declared.board.Board.{Board}
use Rattle.phase_ring.specs.declared.role.Role.TheVariants.{Signaller}
use Rattle.phase_ring.specs.Rings.{standing}

-- a signaller stands at a phase, and there is room for it at a later one, at most the top
pub record MayGoOn {A : Type 0} (from to : ℕ) (board : Board A) : Type 0 where
  pub low : board.done ≤ from
  pub later : from < to
  pub high : to ≤ board.top
  pub stands : 0 < standing board.ring Signaller from
  pub few : standing board.ring Signaller to < MEMBERS_MAX
