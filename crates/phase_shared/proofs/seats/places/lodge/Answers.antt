use Rattle.std.proofs.Common.{◌∙◌}
use Rattle.turn_lock.specs.Seats.{turn_view}
use Rattle.phase_shared.proofs.Lodging.{same_turn, same_on, still_none}
use Rattle.phase_shared.proofs.seats.places.lodge.Goals as goal

pub loop-lane-init : goal.loop-lane-init
loop-lane-init g c = same_turn c.args.turn

pub take_lane-next-requires-clause-here : goal.take_lane-next-requires-clause-here
take_lane-next-requires-clause-here g c = c.loop-lane.invariant.place ∙ c.requires.here

pub take_lane-next-requires-clause-knows : goal.take_lane-next-requires-clause-knows
take_lane-next-requires-clause-knows g c =
    still_none (turn_view c.args.turn) (turn_view c.loop-lane.turn) c.loop-lane.invariant.knows c.requires.knows

pub loop-lane-preserved : goal.loop-lane-preserved
loop-lane-preserved g c =
    same_on c.args.turn c.loop-lane.turn c.take_lane-next.result.0 c.loop-lane.invariant c.take_lane-next.ensures.same

pub returns-then-is_taken : goal.returns-then-is_taken
returns-then-is_taken g c = record {
  same = same_on c.args.turn c.loop-lane.turn c.take_lane-next.result.0 c.loop-lane.invariant c.take_lane-next.ensures.same;
}

pub returns : goal.returns
returns g c = record { same = c.loop-lane.invariant }
