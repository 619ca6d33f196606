-- The founder alone stands on the board and in the registry.
use Rattle.std.proofs.Common.{◌∙◌, ap}
use Rattle.phase_history.specs.Histories.{founder}
use Rattle.phase_registry.specs.Rosters.{added}
use Rattle.phase_core.proofs.NewCore.{made_core}
use Rattle.phase_core.proofs.Phasers.{slots_phaser}
use Rattle.phase_core.proofs.phaser_core.PhaserCore.new.Goals as goal

pub invariant_of-result : goal.invariant_of-result
invariant_of-result g c =
    let b = c.in_ok-store.ensures in
    slots_phaser b.slots (made_core g.A.Accumulate.operation c.add.new.self c.in_ok-store.store.board c.args.first
    (c.in-Ok.ensures.added ∙ ap (added c.args.first founder) c.new-registry.ensures)
    (rw b.limits c.bound-bound.ensures.limits) b.invariant b.done b.top b.base b.standing).holds
