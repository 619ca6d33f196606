-- What is lent are the lists.
use Rattle.phase_core.proofs.phaser_core.PhaserCore.signal_block.Goals as goal

pub returns-in-Ok-clause-after : goal.returns-in-Ok-clause-after
returns-in-Ok-clause-after g c h sends given holds =
    c.in-Ok.ensures.after h sends given (rw c.deref.ensures.value holds)
