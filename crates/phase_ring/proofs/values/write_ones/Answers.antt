-- One more place has its value.
use Rattle.std.proofs.Common.{◌<◌, pos, length, get_or, ◌∙◌, ap}
use Rattle.phase_ring.proofs.Held.{AreSends-at}
use Rattle.phase_accum.specs.Sends.{IsSend}
use Rattle.phase_accum.proofs.Parts.{send-same}
use Rattle.phase_ring.specs.Restarts.{plain_value}
use Rattle.phase_ring.proofs.Ones.{ones_fill}
use Rattle.phase_ring.proofs.values.write_ones.Goals as goal

pub of-requires : goal.of-requires
of-requires g c =
    let values = c.args.values.now in let v = get_or values c.loop-k.k (pos 0) in
    let sent : IsSend v =
    AreSends-at values c.loop-k.k (pos 0) c.requires.sends c.loop-k-test.true in
    rw (send-same v sent) sent

pub loop-k-preserved : goal.loop-k-preserved
loop-k-preserved g c =
    let op = g.A.Accumulate.operation in
    let values = c.args.values.now in let v = get_or values c.loop-k.k (pos 0) in
    let within : c.loop-k.k < length values = c.loop-k-test.true in
    let sent : IsSend v = AreSends-at values c.loop-k.k (pos 0) c.requires.sends within in
    ones_fill (plain_value op) values c.args.out.now c.loop-k.out c.loop-k.k c.finish.result (pos 0)
    within c.requires.room c.loop-k.invariant
    (c.finish.ensures ∙ ap op.finish (c.of.ensures ∙ ap op.of (send-same v sent)))
