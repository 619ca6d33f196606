-- The histories that what stands behind a handle stands for.
use Rattle.std.specs.Prelude.{Option, Some, None}
use Rattle.phase_base.specs.Limits.{Limits}
use Rattle.phase_base.specs.declared.operation.Op.{Op}
use Rattle.phase_history.specs.Histories.{History}
use Rattle.phase_any.specs.Phasers.{PhaserStandsFor}
use Rattle.phase_any.specs.declared.any_phaser.AnyPhaser.{AnyPhaser}

-- there is a phaser, of this operation and these limits, and the history leaves it
abbrev pub Holds : Option AnyPhaser → Op → Limits → History → Type 0
Holds None op limits h = ⊥
Holds (Some phaser) op limits h = PhaserStandsFor phaser op limits h
