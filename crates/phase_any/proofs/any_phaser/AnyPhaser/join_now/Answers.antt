-- The child has the number that is next.
use Rattle.std.proofs.Common.{◌≡◌, ℕ, subst}
use Rattle.std.specs.Prelude.{None}
use Rattle.phase_history.specs.Refusals.{register_now_refusal}
use Rattle.phase_any.proofs.any_phaser.AnyPhaser.join_now.Goals as goal

pub returns-in-Ok-clause-ok : goal.returns-in-Ok-clause-ok
returns-in-Ok-clause-ok c = λ op limits h stands.
    let same = c.next_task-child.ensures op limits h stands in
    let joined = c.in-Ok.ensures.ok op limits h stands in (
      same,
      joined.1,
      subst (λ (n : ℕ). register_now_refusal h c.args.parent n ≡ None) same joined.0,
      c.in-Ok.ensures.after op limits h stands,
    )
