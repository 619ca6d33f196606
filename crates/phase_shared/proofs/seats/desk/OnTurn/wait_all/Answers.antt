use Rattle.std.proofs.lemmas.Bool.{and_parts}
use Rattle.turn_lock.specs.Seats.{turn_view, turn_value}
use Rattle.phase_shared.proofs.ServingTurns.{as_far}
use Rattle.phase_shared.specs.Goods.{allows_or}
use Rattle.phase_shared.proofs.seats.desk.OnTurn.wait_all.Goals as goal

pub loop-lane-preserved : goal.loop-lane-preserved
loop-lane-preserved g c =
    let i = c.loop-lane.invariant in
    let e = c.wait_for-next.ensures in (
      e.serving,
      λ all. let p = and_parts c.loop-lane.is_all c.wait_for-next.result.1 all in e.served p.1 (i.1 p.0),
    )

-- all lanes
pub returns-clause-all : goal.returns-clause-all
returns-clause-all g c all =
    as_far g.A.Accumulate.operation g.S.Since.terms.limits (allows_or g.K.SignalRule.allows g.S.Since.terms.rule) g.S.Since.ask g.S.Since.seen c.loop-lane.lane _ (turn_view c.loop-lane.on.turn) (turn_value c.loop-lane.on.turn) c.loop-lane-test.false (c.loop-lane.invariant.1 all)
