-- The founders' registrations are the opening, and each opening is reached.
use Rattle.graph_runs.specs.Beginnings.{opening}
use Rattle.graph_runs.proofs.AtOpening.{opening_has_begun}
use Rattle.graph_runs.proofs.turns.runs_begin.Goals as goal

pub returns-clause-begun : goal.returns-clause-begun
returns-clause-begun c = opening_has_begun

pub returns-clause-reached : goal.returns-clause-reached
returns-clause-reached c =
    λ job is. c.turns_stay_reached.ensures.opening job (opening job) is (opening_has_begun job is)
