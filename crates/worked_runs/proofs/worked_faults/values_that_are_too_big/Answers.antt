-- What was taken and made is computed.
use Rattle.std.proofs.Common.{leb-true, refl, arith}
use Rattle.graph_base.specs.TaskLines.{IsGraph}
use Rattle.graph_base.specs.declared.place.Place.TheVariants as place
use Rattle.graph_runs.specs.Settled.{IsReady}
use Rattle.worked_runs.specs.WorkedFaults.{faulty, faulty_histories, faulty_numbers, faulty_offsets, faulty_opening, faulty_turns, faulty_moment}
use Rattle.worked_runs.proofs.GraphTests.{is_graph}
use Rattle.worked_runs.proofs.OpeningTests.{has_opened}
use Rattle.worked_runs.proofs.WorkedRun.{part}
use Rattle.worked_runs.proofs.worked_faults.values_that_are_too_big.Goals as goal

faulty-is : IsGraph faulty.graph
faulty-is = (is_graph faulty.graph).sound refl

faulty-ready : IsReady faulty
faulty-ready = record { graph = faulty-is; apart = refl }

pub returns-clause-run : goal.returns-clause-run
returns-clause-run c =
    part c.turns_lead_on.ensures faulty faulty_opening faulty_turns faulty-is refl
    (c.opening.ensures faulty faulty_opening faulty-is
    ((has_opened faulty faulty_histories faulty_numbers faulty_offsets).sound refl faulty-is))

pub returns-clause-met : goal.returns-clause-met
returns-clause-met c =
    c.too_big_is_a_fault.ensures.met faulty faulty_moment 2 0 0 faulty-ready (returns-clause-run c)
    (omega arith) (omega arith) (0, 3, refl) (leb-true 0 0 refl) (leb-true 1 1 refl)
    (leb-true 1 1 refl) refl

pub returns-clause-made : goal.returns-clause-made
returns-clause-made c =
    c.too_big_is_a_fault.ensures.made faulty faulty_moment 4 0 2 0 faulty-ready
    (returns-clause-run c) (omega arith) (omega arith) (1, 2, refl) refl refl
    (leb-true 1 1 refl) tt refl

pub returns-clause-tells : goal.returns-clause-tells
returns-clause-tells c =
    c.too_big_is_a_fault.ensures.tells faulty (place.Task 4, 0) faulty-is (omega arith)
    (returns-clause-made c)
