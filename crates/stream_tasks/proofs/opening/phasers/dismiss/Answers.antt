-- The next registration is that of the founder of the next phaser.
use Rattle.std.proofs.Common.{subst, arith}
use Rattle.stream_tasks.specs.Openings.{AreFoundersFrom}
use Rattle.stream_tasks.proofs.Rows.{stands_at, the_first, the_others}
use Rattle.stream_tasks.proofs.opening.phasers.dismiss.Goals as goal

pub dismiss_one-requires : goal.dismiss_one-requires
dismiss_one-requires g c =
    the_first c.loop-p.p c.args.phasers.now c.next.new.self.rest.items c.index-phasers-p.result
    c.in-Some.reg
    (subst (AreFoundersFrom c.loop-p.p c.args.phasers.now) c.in-Some.ensures.cases.0
    c.loop-p.invariant.0)
    (stands_at c.args.phasers.now c.loop-p.p c.index-phasers-p.result c.loop-p-test.true
    c.index-phasers-p.is)

pub loop-p-preserved : goal.loop-p-preserved
loop-p-preserved g c =
    let fewer = c.in-Some.ensures.cases.1 in
    let before = c.loop-p.invariant.1 in (
      the_others c.loop-p.p c.args.phasers.now c.next.new.self.rest.items c.in-Some.reg
          (subst (AreFoundersFrom c.loop-p.p c.args.phasers.now) c.in-Some.ensures.cases.0
          c.loop-p.invariant.0),
      omega arith,
    )
