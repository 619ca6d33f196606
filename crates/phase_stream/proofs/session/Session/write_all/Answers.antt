-- One writer more.
use Rattle.std.proofs.Common.{◌<◌, length, arith}
use Rattle.phase_stream.specs.Outputs.{writers_at}
use Rattle.phase_stream.proofs.Handing.{first_none, writes_more, writes_some}
use Rattle.phase_stream.proofs.Results.{always_err}
use Rattle.phase_stream.proofs.session.Session.write_all.Goals as goal

pub loop-number-init : goal.loop-number-init
loop-number-init g c = first_none c.args.self.now.stream c.args.self.now.targets.items
    (writers_at g.W.Write.contents g.V.Write.contents c.args.output.now c.args.made.now.items)

pub loop-number-preserved : goal.loop-number-preserved
loop-number-preserved g c =
    writes_more c.args.self.now.stream c.args.self.now.targets.items c.loop-number.number
    (writers_at g.W.Write.contents g.V.Write.contents c.args.output.now c.args.made.now.items)
    (writers_at g.W.Write.contents g.V.Write.contents c.loop-number.output c.loop-number.made.items)
    (writers_at g.W.Write.contents g.V.Write.contents c.write_left.new.output
    c.write_left.new.made.items)
    c.loop-number.invariant c.in_ok-write_left.ensures.ok

pub returns-in_err-write_left-clause-err : goal.returns-in_err-write_left-clause-err
returns-in_err-write_left-clause-err g c =
    always_err c.from_residual.result _
    (writes_some c.args.self.now.stream c.args.self.now.targets.items c.loop-number.number
    (writers_at g.W.Write.contents g.V.Write.contents c.args.output.now c.args.made.now.items)
    (writers_at g.W.Write.contents g.V.Write.contents c.loop-number.output c.loop-number.made.items)
    (writers_at g.W.Write.contents g.V.Write.contents c.write_left.new.output
    c.write_left.new.made.items)
    c.loop-number.invariant c.in_err-write_left.ensures.err)

pub returns-in_err-write_left-clause-failed : goal.returns-in_err-write_left-clause-failed
returns-in_err-write_left-clause-failed g c =
    let lt = c.loop-number-test.true in
    let end = c.len-number-end.ensures in
    let there : c.loop-number.number < length c.args.self.now.targets.items = omega arith in
    always_err c.from_residual.result _ (record {
      number = c.loop-number.number;
      there = there;
      failed = c.in_err-write_left.ensures.failed;
    })
