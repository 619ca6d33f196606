use Rattle.std.proofs.Common.{◌∙◌, sym}
use Rattle.graph_commands.proofs.Ends.{failure-not-done}
use Rattle.graph_commands.proofs.explained.end.Goals as goal

-- no failure is done
pub returns-in-Err-clause-quiet : goal.returns-in-Err-clause-quiet
returns-in-Err-clause-quiet g c =
    λ done. absurd (failure-not-done c.in-Err.failure (sym c.report.ensures.status ∙ done))
