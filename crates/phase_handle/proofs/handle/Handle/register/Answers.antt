-- What holds of the phaser that was taken out holds of the handle.
use Rattle.std.proofs.Common.{sym, ap, ◌∙◌}
use Rattle.std.specs.Prelude.{Some}
use Rattle.phase_handle.proofs.Holding.{holds-some, some-holds}
use Rattle.phase_handle.proofs.handle.Handle.register.Goals as goal

pub returns-in-Ok-clause-ok : goal.returns-in-Ok-clause-ok
returns-in-Ok-clause-ok c = λ op limits h holds.
    let there = c.take-phaser.ensures.value ∙ ap Some (sym c.deref_mut.ensures.value) in
    let got = c.in-Ok.ensures.ok op limits h (holds-some _ _ op limits h there holds) in
    (got.0, got.1, some-holds _ _ op limits _ c.put.ensures got.2)

pub returns-in-Err-clause-refused : goal.returns-in-Err-clause-refused
returns-in-Err-clause-refused c = λ other op limits h holds.
    let there = c.take-phaser.ensures.value ∙ ap Some (sym c.deref_mut.ensures.value) in
    c.in-Err.ensures.refused other op limits h (holds-some _ _ op limits h there holds)
