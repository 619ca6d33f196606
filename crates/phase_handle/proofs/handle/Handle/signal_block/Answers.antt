-- What holds of the phaser that was taken out holds of the handle.
use Rattle.std.proofs.Common.{sym, ap, ◌∙◌}
use Rattle.std.specs.Prelude.{Some}
use Rattle.phase_handle.proofs.Holding.{holds-some, some-holds}
use Rattle.phase_handle.proofs.handle.Handle.signal_block.Goals as goal

pub returns-in-Ok-clause-after : goal.returns-in-Ok-clause-after
returns-in-Ok-clause-after c = λ op limits h holds.
    let there = c.take-phaser.ensures.value ∙ ap Some (sym c.deref_mut.ensures.value) in
    some-holds _ _ op limits _ c.put.ensures
    (c.in-Ok.ensures.after op limits h (holds-some _ _ op limits h there holds))
