-- Each event is tested by computing.
use Rattle.std.proofs.Common.{[], ◌∷◌, ◌++◌, refl}
use Rattle.worked_runs.specs.Worked.{worked, worked_histories, worked_numbers, worked_offsets, worked_opening, worked_turns, peer_turns, lane_turns, late_registers, late_turns, last_turns, late_leaves, after_peer, before_late, with_late, before_end}
use Rattle.worked_runs.proofs.OpeningTests.{has_opened}
use Rattle.worked_runs.proofs.RunTests.{are_next}
use Rattle.worked_runs.proofs.WorkedRun.{worked-is, part}
use Rattle.worked_runs.proofs.worked_run.a_run_from_its_opening_to_its_end.Goals as goal

pub returns-clause-graph : goal.returns-clause-graph
returns-clause-graph c = worked-is

pub returns-clause-opening : goal.returns-clause-opening
returns-clause-opening c =
    c.opening.ensures worked worked_opening worked-is
    ((has_opened worked worked_histories worked_numbers worked_offsets).sound refl worked-is)

pub returns-clause-through : goal.returns-clause-through
returns-clause-through c =
    c.turns_lead_on.ensures worked worked_opening worked_turns worked-is
    ((are_next worked worked_opening worked_turns).sound refl worked-is)
    (returns-clause-opening c)

pub returns-clause-after_peer : goal.returns-clause-after_peer
returns-clause-after_peer c =
    part c.turns_lead_on.ensures worked worked_opening peer_turns worked-is refl
    (returns-clause-opening c)

pub returns-clause-before_late : goal.returns-clause-before_late
returns-clause-before_late c =
    part c.turns_lead_on.ensures worked after_peer lane_turns worked-is refl
    (returns-clause-after_peer c)

pub returns-clause-with_late : goal.returns-clause-with_late
returns-clause-with_late c =
    part c.turns_lead_on.ensures worked before_late (late_registers ∷ []) worked-is refl
    (returns-clause-before_late c)

pub returns-clause-before_end : goal.returns-clause-before_end
returns-clause-before_end c =
    part c.turns_lead_on.ensures worked with_late (late_turns ++ last_turns) worked-is refl
    (returns-clause-with_late c)

pub returns-clause-end : goal.returns-clause-end
returns-clause-end c =
    part c.turns_lead_on.ensures worked before_end (late_leaves ∷ []) worked-is refl
    (returns-clause-before_end c)
