-- A signaller that holds no sends is refused as its signal is.
use Rattle.std.proofs.Common.{◌≡◌, ◌∙◌, true, length, sym, arith, rules, subst}
use Rattle.phase_base.specs.Modes.{mode_signals}
use Rattle.phase_accum.specs.Parcels.{Parcel, StandsForSends}
use Rattle.phase_core.specs.Blocks.{one_each}
use Rattle.phase_replay.specs.Scripts.{held_by}
use Rattle.phase_replay.proofs.Obeying.{block_refused}
use Rattle.phase_replay.proofs.script_phaser.ScriptPhaser.block.Goals as goal

pub returns-in-Err-clause-reply : goal.returns-in-Err-clause-reply
returns-in-Err-clause-reply g c limits h held stands outcomes =
    let signals : mode_signals c.in-Some.entry.mode ≡ true = search rules in
    let holds = rw (← c.of.ensures) at (stands.holds c.args.task) in
    let none : length (held_by held c.args.task) ≡ 0 = omega (arith, holds.count_is, c.count.ensures.value, c.if-count-gt0.false) in
    c.signal_reason.ensures outcomes
    ∙ block_refused g.A.Accumulate.operation c.args.self.now limits h held c.args.task c.args.values.now c.in-Some.entry c.in-Err.refusal
    stands c.in-Some.ensures signals none (c.in-Err.ensures.refused h (one_each c.args.values.now) stands.core (search rules))
