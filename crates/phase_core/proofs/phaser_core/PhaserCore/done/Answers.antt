-- The board's done is that of the history, while a waiter is registered.
use Rattle.std.proofs.Common.{◌≡◌, ◌<◌, length, arith}
use Rattle.phase_base.specs.Members.{wait_phases}
use Rattle.phase_ring.specs.Stores.{board_shown}
use Rattle.phase_core.specs.Cores.{StandsFor}
use Rattle.phase_core.specs.PlainCores.{core_shown}
use Rattle.phase_core.proofs.NewCore.{done_of_kept}
use Rattle.phase_core.proofs.Phasers.{kept_of}
use Rattle.phase_core.proofs.phaser_core.PhaserCore.done.Goals as goal

pub returns-then-waiters-gt0 : goal.returns-then-waiters-gt0
returns-then-waiters-gt0 g c h given =
    let op = g.A.Accumulate.operation in
    let reg = c.self.inside.registry in
    let store = c.self.inside.store in
    let stands : StandsFor op (core_shown op reg store) h = rw c.self.view_is given in
    let kept = kept_of op reg store c.self.invariant
    (λ z. (let w : c.waiters.result ≡ length (wait_phases reg.members) = c.waiters.ensures in let n : 0 < c.waiters.result = c.if-waiters-gt0.true in omega arith)) in
    done_of_kept op reg (board_shown op store) h stands kept
