-- The child has the number that is next.
use Rattle.std.proofs.Common.{◌≡◌, ℕ, subst}
use Rattle.std.specs.Prelude.{Some, None}
use Rattle.phase_history.specs.Refusals.{register_refusal}
use Rattle.phase_any.proofs.any_phaser.AnyPhaser.join.Goals as goal

pub returns-in-Ok-clause-ok : goal.returns-in-Ok-clause-ok
returns-in-Ok-clause-ok c = λ op limits h stands.
    let same = c.next_task-child.ensures op limits h stands in (
      same,
      subst (λ (n : ℕ). register_refusal h c.args.parent n c.args.mode ≡ None) same
          (c.in-Ok.ensures.ok op limits h stands),
      c.in-Ok.ensures.after op limits h stands,
    )

pub returns-in-Err-clause-refused : goal.returns-in-Err-clause-refused
returns-in-Err-clause-refused c = λ other op limits h stands.
    subst (λ (n : ℕ). register_refusal h c.args.parent n c.args.mode ≡ Some c.in-Err.refusal)
    (c.next_task-child.ensures op limits h stands)
    (c.in-Err.ensures.refused other op limits h stands)
