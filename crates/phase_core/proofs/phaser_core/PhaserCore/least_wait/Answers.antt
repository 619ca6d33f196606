-- The slowest waiter stands at the base.
use Rattle.std.proofs.Common.{◌≡◌, Some, length, sym, ◌∙◌, ap}
use Rattle.phase_base.specs.Members.{wait_phases}
use Rattle.phase_core.proofs.Phasers.{kept_of}
use Rattle.phase_core.proofs.phaser_core.PhaserCore.least_wait.Goals as goal

pub returns : goal.returns
returns g c =
    let reg = c.self.inside.registry in
    let kept = kept_of g.A.Accumulate.operation reg c.self.inside.store c.self.invariant
    (λ z. (let w : c.waiters.result ≡ length (wait_phases reg.members) = c.waiters.ensures in let n = c.if-waiters-eq0.false in n (w ∙ z))) in
    rw (← c.self.view_is) (ap Some c.base.ensures ∙ sym kept.slowest)
