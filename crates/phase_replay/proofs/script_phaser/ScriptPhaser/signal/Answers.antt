-- The core is handed the sends of the task.
use Rattle.std.proofs.Common.{sym, subst}
use Rattle.phase_accum.specs.Parcels.{Parcel, StandsForSends}
use Rattle.phase_replay.specs.Scripts.{held_by}
use Rattle.phase_replay.proofs.Obeying.{phaser_signalled}
use Rattle.phase_replay.proofs.script_phaser.ScriptPhaser.signal.Goals as goal

pub returns-in-Ok-clause-after : goal.returns-in-Ok-clause-after
returns-in-Ok-clause-after g c limits h held stands =
    let holds = rw (← c.of-pending.ensures) at (stands.holds c.args.task) in
    phaser_signalled g.A.Accumulate.operation c.args.self.now c.signal.new.self c.clear.new.self limits h held c.args.task c.in-Ok.phase c.args.single stands
    c.in-Ok.ensures.limits (c.in-Ok.ensures.ok h (held_by held c.args.task) stands.core holds)
    (c.in-Ok.ensures.after h (held_by held c.args.task) stands.core holds) c.clear.ensures
