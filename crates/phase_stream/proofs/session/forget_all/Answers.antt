-- One sink more.
use Rattle.std.proofs.Common.{◌≡◌, length, ap, subst, arith}
use Rattle.stream_lists.specs.Lists.{sinks_of}
use Rattle.phase_stream.specs.Sessions.{Forgets}
use Rattle.phase_stream.proofs.Forgetting.{forgets_more, forgets_none}
use Rattle.phase_stream.proofs.session.forget_all.Goals as goal

pub loop-sink-init : goal.loop-sink-init
loop-sink-init c = forgets_none c.args.stream.now

pub forget-requires : goal.forget-requires
forget-requires c =
    let same = ap (λ j. length (sinks_of j)) c.loop-sink.invariant.job in
    let lt = c.loop-sink-test.true in
    let end = c.sinks-sink-end.ensures in
    omega arith

pub loop-sink-preserved : goal.loop-sink-preserved
loop-sink-preserved c =
    forgets_more c.args.stream.now c.loop-sink.stream c.forget.new.self c.loop-sink.sink
    c.loop-sink.invariant c.forget.ensures.stands c.forget.ensures.others.0 c.forget.ensures.inputs

pub returns : goal.returns
returns c =
    let end = c.sinks-sink-end.ensures in
    let far = c.loop-sink-test.false in
    let near = c.loop-sink.auto.sink-end in
    let all : c.loop-sink.sink ≡ length (sinks_of c.args.stream.now.job) = omega arith in
    subst (λ n. Forgets n c.args.stream.now c.loop-sink.stream) all c.loop-sink.invariant
