-- The limits of a phaser.
use Rattle.std.proofs.Common.{Option, Some, None, subst}
use Rattle.phase_base.specs.Limits.{Limits, AreLimits}
use Rattle.phase_base.specs.declared.operation.Op.{Op}
use Rattle.phase_history.specs.Histories.{History}
use Rattle.phase_any.specs.Phasers.{PhaserStandsFor}
use Rattle.phase_handle.specs.Phasers.{Holds}
use Rattle.phase_any.specs.declared.any_phaser.AnyPhaser.{AnyPhaser}
use Rattle.phase_history.proofs.Standstill.{limits_of}
use Rattle.phase_any.specs.declared.any_phaser.AnyPhaser.TheVariants as any

-- the limits of a phaser are within theirs
stands-limits : (phaser : AnyPhaser) (op : Op) (limits : Limits) (h : History)
    → PhaserStandsFor phaser op limits h → AreLimits limits
stands-limits (any.Sum c) op limits h stands =
    subst AreLimits stands.limits_are (limits_of c.limits h stands.has_history.legal)
stands-limits (any.Product c) op limits h stands =
    subst AreLimits stands.limits_are (limits_of c.limits h stands.has_history.legal)
stands-limits (any.Least c) op limits h stands =
    subst AreLimits stands.limits_are (limits_of c.limits h stands.has_history.legal)
stands-limits (any.Greatest c) op limits h stands =
    subst AreLimits stands.limits_are (limits_of c.limits h stands.has_history.legal)
stands-limits (any.Any c) op limits h stands =
    subst AreLimits stands.limits_are (limits_of c.limits h stands.has_history.legal)

pub holds-limits : (held : Option AnyPhaser) (op : Op) (limits : Limits) (h : History)
    → Holds held op limits h → AreLimits limits
holds-limits None op limits h holds = absurd holds
holds-limits (Some phaser) op limits h holds = stands-limits phaser op limits h holds
