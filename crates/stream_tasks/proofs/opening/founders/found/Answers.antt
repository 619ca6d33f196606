-- The founder of the next phaser stands behind the others.
use Rattle.std.proofs.Common.{subst, sym, ap, ◌∙◌, ◌++◌, [], ◌∷◌, ◌≡◌, length, arith}
use Rattle.std.specs.Prelude.{slice_get}
use Rattle.std.proofs.lemmas.List.{length-append}
use Rattle.stream_tasks.specs.Openings.{AreFoundersFrom}
use Rattle.stream_tasks.proofs.Rows.{stands_at, AreOf, the_first, the_others, of_push, are_founders}
use Rattle.stream_tasks.proofs.opening.founders.found.Goals as goal

pub of-requires-clause-founder : goal.of-requires-clause-founder
of-requires-clause-founder g c =
    the_first c.loop-p.p c.args.phasers.now c.next.new.self.rest.items c.index-phasers-p.result
    c.in-Some.reg
    (subst (AreFoundersFrom c.loop-p.p c.args.phasers.now) c.in-Some.ensures.cases.0
    c.loop-p.invariant.0)
    (stands_at c.args.phasers.now c.loop-p.p c.index-phasers-p.result c.loop-p-test.true
    c.index-phasers-p.is)

pub loop-p-preserved : goal.loop-p-preserved
loop-p-preserved g c =
    let phasers = c.args.phasers.now in
    let founders = c.loop-p.founders.items in
    let items = c.push_reserved.ensures.items in
    let len = c.push_reserved.ensures.len in
    let capacity = c.push_reserved.ensures.capacity in
    let fewer = c.in-Some.ensures.cases.1 in
    let before = c.loop-p.invariant.1 in
    let many = c.loop-p.invariant.3 in
    let long = c.loop-p.invariant.4 in
    let room = c.loop-p.invariant.5 in
    let one = length-append founders (c.of.result ∷ []) in
    let same : length c.push_reserved.new.self.items ≡ length (founders ++ c.of.result ∷ []) =
    ap length items in (
      the_others c.loop-p.p phasers c.next.new.self.rest.items c.in-Some.reg
          (subst (AreFoundersFrom c.loop-p.p phasers) c.in-Some.ensures.cases.0
          c.loop-p.invariant.0),
      omega arith,
      subst (AreOf phasers) (sym items)
          (of_push phasers founders c.index-phasers-p.result c.of.result c.loop-p.invariant.2
          (ap (slice_get phasers) many
          ∙ stands_at phasers c.loop-p.p c.index-phasers-p.result c.loop-p-test.true c.index-phasers-p.is) c.of.ensures.op c.of.ensures.at),
      omega arith,
      omega arith,
      omega arith,
    )

pub returns : goal.returns
returns g c =
    let many = c.loop-p.invariant.3 in
    let end = c.loop-p-test.false in
    let before = c.loop-p.invariant.1 in
    λ job are. are_founders job c.args.phasers.now c.loop-p.founders.items (omega arith)
    c.loop-p.invariant.2 are
