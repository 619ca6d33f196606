-- One more value is held behind those before it.
use Rattle.std.proofs.Common.{◌≡◌, ◌<◌, ◌≤◌, pos, length, take, get_or, sym, subst, ◌∙◌, arith}
use Rattle.std.proofs.lemmas.List.{take_more, take_all, length-take-le}
use Rattle.phase_accum.specs.Parcels.{StandsForSends}
use Rattle.phase_accum.specs.Sends.{IsSend}
use Rattle.phase_accum.proofs.Parts.{send-same}
use Rattle.phase_ring.proofs.Held.{AreSends-at}
use Rattle.phase_any.proofs.Sending.{no-fault, not-no-value}
use Rattle.phase_any.proofs.sends.held.Goals as goal

pub loop-k-init : goal.loop-k-init
loop-k-init g c = c.new-pending.ensures.stands

pub unreachable-requires : goal.unreachable-requires
unreachable-requires g c =
    let l = c.loop-k in let values = c.args.values.now in let v = get_or values l.k (pos 0) in
    let within : l.k < length values = c.loop-k-test.true in
    let sent : IsSend v = AreSends-at values l.k (pos 0) c.requires.sends within in
    let few : length values ≤ 65536 = c.requires.few in
    let held : length (take l.k values) ≡ l.k = length-take-le l.k values (omega arith) in
    no-fault c.send.result c.in_default.field-0 c.in_default.is
    (λ bad. not-no-value v sent (sym (send-same v sent) ∙ c.send.ensures.bad_value.0 bad))
    (λ many. let full : l.pending.count ≡ 65536 = (c.send.ensures.too_many.0 many).1 in
    let count : l.pending.count ≡ length (take l.k values) = l.invariant.count_is in omega arith)

pub loop-k-preserved : goal.loop-k-preserved
loop-k-preserved g c =
    let l = c.loop-k in let values = c.args.values.now in let v = get_or values l.k (pos 0) in
    let within = c.loop-k-test.true in
    let sent : IsSend v = AreSends-at values l.k (pos 0) c.requires.sends within in
    rw (take_more values l.k (pos 0) within)
    (rw (send-same v sent) at (c.in-Ok.ensures.stands (take l.k values) l.invariant))

pub returns : goal.returns
returns g c =
    let l = c.loop-k in let values = c.args.values.now in
    subst (λ xs. StandsForSends g.A.Accumulate.operation l.pending xs)
    (take_all l.k values c.loop-k-test.false) l.invariant
