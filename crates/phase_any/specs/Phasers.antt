-- The histories that a phaser stands for, whatever its operation.
use Rattle.std.specs.Prelude.{◌≡◌, ℕ, Some, unwrap_or}
use Rattle.phase_base.specs.Limits.{Limits}
use Rattle.phase_base.specs.declared.operation.Op.{Op}
use Rattle.phase_base.specs.declared.operation.Op.TheVariants as op
use Rattle.phase_accum.specs.Sums.{sum_operation}
use Rattle.phase_accum.specs.Products.{product_operation}
use Rattle.phase_accum.specs.Leasts.{least_operation}
use Rattle.phase_accum.specs.Greatests.{greatest_operation}
use Rattle.phase_accum.specs.Anys.{any_operation}
use Rattle.phase_history.specs.Histories.{History, greatest_used}
use Rattle.phase_registry.specs.Rosters.{next_after}
use Rattle.phase_core.specs.Cores.{StandsFor}
use Rattle.phase_any.specs.declared.any_phaser.AnyPhaser.{AnyPhaser}
use Rattle.phase_any.specs.declared.any_phaser.AnyPhaser.TheVariants as any

-- the operation on the sends of a phase
abbrev pub op_of : AnyPhaser → Op
op_of (any.Sum c) = op.Sum
op_of (any.Product c) = op.Product
op_of (any.Least c) = op.Least
op_of (any.Greatest c) = op.Greatest
op_of (any.Any c) = op.Any

-- the limits of the phaser
abbrev pub limits_of : AnyPhaser → Limits
limits_of (any.Sum c) = c.limits
limits_of (any.Product c) = c.limits
limits_of (any.Least c) = c.limits
limits_of (any.Greatest c) = c.limits
limits_of (any.Any c) = c.limits

-- the history leaves such a phaser
abbrev pub HasHistory : AnyPhaser → History → Type 0
HasHistory (any.Sum c) h = StandsFor sum_operation c h
HasHistory (any.Product c) h = StandsFor product_operation c h
HasHistory (any.Least c) h = StandsFor least_operation c h
HasHistory (any.Greatest c) h = StandsFor greatest_operation c h
HasHistory (any.Any c) h = StandsFor any_operation c h

-- the phaser is one of this operation and these limits, and the history leaves it
pub record PhaserStandsFor (c : AnyPhaser) (op : Op) (limits : Limits) (h : History)
    : Type 0 where
  pub op_is : op_of c ≡ op
  pub limits_are : limits_of c ≡ limits
  pub has_history : HasHistory c h

-- the number of the task that is registered next: the least above every number ever used, where one
-- is left
abbrev pub next_task : History → ℕ
next_task h = unwrap_or (next_after (Some (greatest_used h))) 18446744073709551615
