use Rattle.std.proofs.Common.{◌+◌}
use Rattle.turn_lock.specs.Seats.{turn_number, turn_view, turn_told}
use Rattle.phase_shared.specs.LockedPhasers.{locked_terms}
use Rattle.phase_shared.proofs.WordCalls.{reads_free, takes_lane}
use Rattle.phase_shared.proofs.seats.places.take_lane.Goals as goal

pub read_owner_in-turn-requires-clause-rule : goal.read_owner_in-turn-requires-clause-rule
read_owner_in-turn-requires-clause-rule g c =
    let terms = locked_terms c.args.phaser.now in
    let turn = c.args.turn in
    reads_free g.A.Accumulate.operation terms.limits (g.K.SignalRule.allows terms.rule) (turn_number turn) (turn_told turn) c.args.lane (turn_view turn)
    c.requires.knows c.requires.low

pub write_owner_in-turn-requires-clause-rule : goal.write_owner_in-turn-requires-clause-rule
write_owner_in-turn-requires-clause-rule g c =
    let terms = locked_terms c.args.phaser.now in
    let turn = c.read_owner_in-turn.result.0 in
    takes_lane g.A.Accumulate.operation terms.limits (g.K.SignalRule.allows terms.rule) (turn_number turn) (turn_told turn) c.args.lane (c.args.task + 1)
    (turn_view c.args.turn) (turn_view turn) c.requires.knows (c.read_owner_in-turn.ensures.same.knows.0 c.if-owner-ne-NOBODY.false)
