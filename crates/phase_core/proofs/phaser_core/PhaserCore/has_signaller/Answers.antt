-- A list has a least number where it is not empty.
use Rattle.std.proofs.Common.{sym, ◌∙◌, ap}
use Rattle.std.specs.Prelude.{nat_lt}
use Rattle.phase_base.specs.Members.{signal_phases}
use Rattle.phase_core.proofs.Boarded.{is_some-least}
use Rattle.phase_core.proofs.phaser_core.PhaserCore.has_signaller.Goals as goal

pub returns : goal.returns
returns g c =
    rw (← c.self.view_is) (ap (nat_lt 0) c.signallers.ensures ∙ sym (is_some-least (signal_phases c.self.inside.registry.members)))
