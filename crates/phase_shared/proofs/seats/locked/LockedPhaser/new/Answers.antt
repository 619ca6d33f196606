use Rattle.std.proofs.Common.{[], ◌∷◌, sym, subst, refl}
use Rattle.phase_shared.specs.Phasers.{Limits, founder, IsLegal}
use Rattle.phase_history.specs.declared.event.Event.TheVariants.{Made}
use Rattle.phase_shared.specs.Rule.{IsSeatOfTask, StandsWithin}
use Rattle.phase_shared.specs.declared.seats.view.View.{View}
use Rattle.phase_shared.proofs.Joining.{founds}
use Rattle.phase_shared.proofs.seats.locked.LockedPhaser.new.Goals as goal

pub new-requires-2 : goal.new-requires-2
new-requires-2 g c = record {
  rule = founds g.A.Accumulate.operation.value c.args.terms.limits (g.K.SignalRule.allows c.args.terms.rule)
      (StandsWithin g.A.Accumulate.operation c.args.terms.limits) c.in_ok-core.core
      (record { stands = c.in_ok-core.ensures.stands; limits_are = c.in_ok-core.ensures.limits })
      (subst (λ (l : Limits). IsLegal l (Made 0 ∷ [])) c.in_ok-core.ensures.limits c.in_ok-core.ensures.stands.legal);
}

-- the founder is a member
pub returns-clause-founder : goal.returns-clause-founder
returns-clause-founder g c =
    subst (λ (v : View). IsSeatOfTask g.K.SignalRule.allows c.args.terms 0 founder v) (sym c.in_ok-lock.ensures.view)
    (record { rests = refl; member = refl; good = record { legal = subst (λ (l : Limits). IsLegal l (Made 0 ∷ [])) c.in_ok-core.ensures.limits c.in_ok-core.ensures.stands.legal; keeps = tt } })
