use Rattle.std.proofs.Common.{◌≡◌, ◌≤◌, ℕ, length, Some}
use Rattle.std.specs.Prelude.{slice_get}
use Rattle.stream_members.specs.AnyPhasers.{phaser_op, phaser_spot}
use Rattle.stream_members.specs.declared.any_phaser.AnyPhaser.{AnyPhaser}
use Rattle.stream_tasks.specs.Openings.{IsOfLine, AreFoundersFrom}
use Rattle.stream_tasks.proofs.opening.phasers.open_phasers.Given as goal

-- the phasers before this one, with their founders, and there is room for all
abbrev pub invariant-loop-p : goal.invariant-loop-p
invariant-loop-p g l =
    AreFoundersFrom 0 l.phasers.items l.regs.items × (length l.phasers.items ≡ l.p)
    × ((p : ℕ) (phaser : AnyPhaser) → slice_get l.phasers.items p ≡ Some phaser
    → IsOfLine l.job p (phaser_op phaser) (phaser_spot phaser))
    × (l.phasers.len ≡ l.p) × (l.regs.len ≡ l.p)
    × (l.many ≤ l.phasers.cap) × (l.many ≤ l.regs.cap)
