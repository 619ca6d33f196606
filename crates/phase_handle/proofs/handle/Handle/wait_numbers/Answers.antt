-- The places are as many as the answer needs.
use Rattle.std.proofs.Common.{◌≡◌, length, ap, arith}
use Rattle.handle_numbers.proofs.BlockWaits.{asked-reply}
use Rattle.phase_handle.proofs.PhaserLimits.{holds-limits}
use Rattle.phase_handle.proofs.handle.Handle.wait_numbers.Goals as goal

pub returns-clause-reply : goal.returns-clause-reply
returns-clause-reply c = λ op limits h holds.
    let are = holds-limits c.args.self.now.place.phaser op limits h holds in
    let items = c.in_ok-out.out.items in
    let lent = c.deref_mut.result.now in
    let long : length lent ≡ length items = omega (arith, ap length c.deref_mut.ensures.value) in
    asked-reply limits h c.args.task (length items) (length lent) (length c.args.values.now)
    c.wait_into.result (c.in_ok-out.ensures.reply limits h c.args.task are) long
    (c.wait_into.ensures.reply op limits h holds)
