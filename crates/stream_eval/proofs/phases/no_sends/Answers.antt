use Rattle.std.proofs.Common.{◌+◌, ap, refl, ◌∙◌}
use Rattle.std.proofs.lemmas.List.{length_push}
use Rattle.stream_eval.proofs.Sends.{HasParts-none, HasParts-unit}
use Rattle.stream_eval.proofs.phases.no_sends.Goals as goal

-- there is no phase yet
pub loop-phase-init : goal.loop-phase-init
loop-phase-init g c = rw c.in_ok-parts.ensures.items (HasParts-none g.A.Accumulate.operation, refl)

-- one more phase has the part of no send
pub loop-phase-preserved : goal.loop-phase-preserved
loop-phase-preserved g c =
    rw (c.in_ok-push.ensures.items, c.unit.ensures) (
      HasParts-unit g.A.Accumulate.operation c.loop-phase.parts.items c.loop-phase.invariant.0,
      length_push c.loop-phase.parts.items _ ∙ ap (λ n. n + 1) c.loop-phase.invariant.1,
    )
