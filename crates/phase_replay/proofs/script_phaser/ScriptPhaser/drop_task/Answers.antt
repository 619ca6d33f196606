-- An accepted drop gives the task's sends up.
use Rattle.std.proofs.Common.{refl}
use Rattle.phase_replay.proofs.Obeying.{phaser_dropped, drop_is_accepted}
use Rattle.phase_replay.proofs.script_phaser.ScriptPhaser.drop_task.Goals as goal

pub returns-clause-after : goal.returns-clause-after
returns-clause-after g c limits h held stands =
    phaser_dropped g.A.Accumulate.operation c.args.self.now c.drop_task.new.self c.clear.new.self limits h held c.args.task stands
    c.drop_task.ensures.limits
    (drop_is_accepted g.A.Accumulate.operation c.args.self.now limits h held c.args.task stands (c.in-Ok.ensures.ok.0 refl))
    (c.in-Ok.ensures.after h stands.core) c.clear.ensures
