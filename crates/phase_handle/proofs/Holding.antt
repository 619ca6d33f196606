-- What stands in a place, and the histories that it stands for.
use Rattle.std.proofs.Common.{◌≡◌, sym, subst}
use Rattle.std.specs.Prelude.{Option, Some}
use Rattle.phase_base.specs.Limits.{Limits}
use Rattle.phase_base.specs.declared.operation.Op.{Op}
use Rattle.phase_history.specs.Histories.{History}
use Rattle.phase_any.specs.Phasers.{PhaserStandsFor}
use Rattle.phase_handle.specs.Phasers.{Holds}
use Rattle.phase_any.specs.declared.any_phaser.AnyPhaser.{AnyPhaser}

pub holds-some : (held : Option AnyPhaser) (phaser : AnyPhaser) (op : Op) (limits : Limits)
    (h : History) → held ≡ Some phaser → Holds held op limits h
    → PhaserStandsFor phaser op limits h
holds-some held phaser op limits h is holds =
    subst (λ (o : Option AnyPhaser). Holds o op limits h) is holds

pub some-holds : (held : Option AnyPhaser) (phaser : AnyPhaser) (op : Op) (limits : Limits)
    (h : History) → held ≡ Some phaser → PhaserStandsFor phaser op limits h
    → Holds held op limits h
some-holds held phaser op limits h is stands =
    subst (λ (o : Option AnyPhaser). Holds o op limits h) (sym is) stands
