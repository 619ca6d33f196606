-- Each event is tested by computing.
use Rattle.std.proofs.Common.{[], ◌∷◌, refl}
use Rattle.worked_runs.specs.WorkedDecimator.{thirds, thirds_histories, thirds_numbers, thirds_opening, first_turns, second_turns, third_turns, after_second, after_fourth}
use Rattle.worked_runs.proofs.OpeningTests.{has_opened}
use Rattle.worked_runs.proofs.WorkedDecimator.{thirds-is}
use Rattle.worked_runs.proofs.WorkedRun.{part}
use Rattle.worked_runs.proofs.worked_decimator.a_decimator_runs.Goals as goal

pub returns-clause-graph : goal.returns-clause-graph
returns-clause-graph c = thirds-is

pub returns-clause-opening : goal.returns-clause-opening
returns-clause-opening c =
    c.opening.ensures thirds thirds_opening thirds-is
    ((has_opened thirds thirds_histories thirds_numbers (0 ∷ 0 ∷ 0 ∷ [])).sound refl thirds-is)

pub returns-clause-after_second : goal.returns-clause-after_second
returns-clause-after_second c =
    part c.turns_lead_on.ensures thirds thirds_opening first_turns thirds-is refl
    (returns-clause-opening c)

pub returns-clause-after_fourth : goal.returns-clause-after_fourth
returns-clause-after_fourth c =
    part c.turns_lead_on.ensures thirds after_second second_turns thirds-is refl
    (returns-clause-after_second c)

pub returns-clause-end : goal.returns-clause-end
returns-clause-end c =
    part c.turns_lead_on.ensures thirds after_fourth third_turns thirds-is refl
    (returns-clause-after_fourth c)
