-- The entry comes in both roles.
use Rattle.std.proofs.Common.{◌∙◌}
use Rattle.phase_ring.proofs.board.Board.register.Goals as goal

pub returns-clause-keeps : goal.returns-clause-keeps
returns-clause-keeps g c =
    let first = c.enter_as.ensures.keeps in
    let then = c.enter_as-2.ensures.keeps in
    record { limits = then.limits ∙ first.limits; done = then.done ∙ first.done; top = then.top ∙ first.top }
