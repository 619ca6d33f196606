-- One registration more is made.
use Rattle.std.proofs.Common.{ℕ, ◌+◌, length, subst, sym, ap, ◌∙◌}
use Rattle.stream_tasks.specs.Openings.{IsRootMember}
use Rattle.stream_tasks.proofs.opening.founding.register_all.Goals as goal

pub returns-in-Err-clause-founders : goal.returns-in-Err-clause-founders
returns-in-Err-clause-founders g c =
    c.register_root.ensures.founders g.J.Run.spots c.loop-i.invariant.0

pub loop-i-preserved : goal.loop-i-preserved
loop-i-preserved g c =
    let job = c.args.job.now in
    let spots = g.J.Run.spots in
    let s = c.loop-i.seed.state in
    let ready = c.loop-i.invariant.1 in
    let root = c.in-Ok.ensures.root spots c.loop-i.invariant.0 in (
      c.register_root.ensures.founders spots c.loop-i.invariant.0,
      record {
        seed = c.receive.ensures.seed job ready.seed;
        room = c.receive.ensures.room 9 ready.room;
        received = c.receive.ensures.received job spots ready.received
            (subst (λ (t : ℕ). IsRootMember job spots t (length s.holds.items) c.in-Ok.member)
            (sym c.loop-i.invariant.2)
            (subst (λ (i : ℕ). IsRootMember job spots c.number-t.result i c.in-Ok.member)
            (sym ready.many) root));
        many = c.receive.ensures.many ∙ ap (λ (n : ℕ). n + 1) ready.many;
      },
      c.receive.ensures.number ∙ c.loop-i.invariant.2,
    )
