-- Small values can be sent.
use Rattle.phase_core.proofs.OneSends.{small-sends}
use Rattle.phase_replay.proofs.block_sends.BlockSends.hold_each.Goals as goal

pub hold_each-requires-clause-sends : goal.hold_each-requires-clause-sends
hold_each-requires-clause-sends g c = small-sends c.args.values.now c.requires.small
