-- A send that is taken stands behind those that the task holds.
use Rattle.std.proofs.Common.{◌≡◌, true, rules, sym, subst}
use Rattle.std.proofs.lemmas.Int.{to_z-of_z}
use Rattle.phase_base.specs.Modes.{mode_signals}
use Rattle.phase_accum.specs.Parcels.{Parcel, StandsForSends}
use Rattle.phase_replay.specs.Scripts.{held_by}
use Rattle.phase_replay.proofs.Obeying.{phaser_sent}
use Rattle.phase_replay.proofs.script_phaser.ScriptPhaser.send.Goals as goal

pub returns-in_ok-put-in-Ok-clause-after : goal.returns-in_ok-put-in-Ok-clause-after
returns-in_ok-put-in-Ok-clause-after g c limits h held stands =
    let signals : mode_signals c.in-Some.entry.mode ≡ true = search rules in
    phaser_sent g.A.Accumulate.operation c.args.self.now c.put.new.self c.send.new.self limits h held c.args.task c.in-Some.entry c.args.value stands c.in-Some.ensures
    signals (simp (to_z-of_z, c.ranges.value) at (c.in-Ok.ensures.stands (held_by held c.args.task) (rw c.of-pending.ensures (stands.holds c.args.task))))
    c.in_ok-put-in-Ok.ensures.ok
