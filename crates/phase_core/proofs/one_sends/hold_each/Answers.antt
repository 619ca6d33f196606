-- One more value stands in its place.
use Rattle.std.proofs.Common.{◌<◌, pos, length, get_or, ◌∙◌, arith}
use Rattle.std.proofs.lemmas.List.{length-set}
use Rattle.phase_ring.proofs.Held.{AreSends-at}
use Rattle.phase_accum.specs.Sends.{IsSend}
use Rattle.phase_accum.proofs.Parts.{send-same}
use Rattle.phase_core.proofs.OneSends.{stand_more}
use Rattle.phase_core.proofs.one_sends.hold_each.Goals as goal

pub one_send-requires : goal.one_send-requires
one_send-requires g c =
    let values = c.args.values.now in let v = get_or values c.loop-k.k (pos 0) in
    let sent : IsSend v =
    AreSends-at values c.loop-k.k (pos 0) c.requires.sends c.loop-k-test.true in
    rw (send-same v sent) sent

pub loop-k-preserved : goal.loop-k-preserved
loop-k-preserved g c =
    let l = c.loop-k in let values = c.args.values.now in let v = get_or values l.k (pos 0) in
    let room = c.requires.room in
    let long = l.invariant.1 in
    let within : l.k < length values = c.loop-k-test.true in
    let sent : IsSend v = AreSends-at values l.k (pos 0) c.requires.sends within in
    let op = g.A.Accumulate.operation in (
      stand_more op l.places values l.k c.one_send.result (pos 0) (omega arith) within
          l.invariant.0 (rw (send-same v sent) at c.one_send.ensures),
      length-set l.places l.k c.one_send.result ∙ long,
    )
