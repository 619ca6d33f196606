-- The next founder has left.
use Rattle.std.proofs.Common.{subst, sym, ◌∙◌, arith}
use Rattle.std.proofs.lemmas.List.{nil_from_length}
use Rattle.stream_tasks.proofs.Rows.{HaveLeft, one_left, all_left, have_left}
use Rattle.stream_tasks.proofs.opening.founders.leave_all.Goals as goal

pub loop-founder-preserved : goal.loop-founder-preserved
loop-founder-preserved g c =
    let all = c.args.founders.items in
    let rest = c.next.new.self.rest.items in
    let lefts = c.loop-founder.lefts.items in
    let len = c.push_reserved.ensures.len in
    let capacity = c.push_reserved.ensures.capacity in
    let fewer = c.in-Some.ensures.cases.1 in
    let room = c.loop-founder.invariant.1 in (
      subst (λ xs. HaveLeft all xs rest) (sym c.push_reserved.ensures.items)
          (one_left all rest lefts c.in-Some.founder c.leave.result
          (subst (HaveLeft all lefts) c.in-Some.ensures.cases.0 c.loop-founder.invariant.0)
          c.leave.ensures.left c.leave.ensures.gave),
      omega arith,
    )

pub returns : goal.returns
returns g c =
    let rest = c.loop-founder.founders.rest in
    λ job spots are. have_left job spots c.args.founders.items c.loop-founder.lefts.items are
    (all_left c.args.founders.items c.loop-founder.lefts.items
    (subst (HaveLeft c.args.founders.items c.loop-founder.lefts.items)
    (nil_from_length rest.items (sym rest.ok.0 ∙ c.in_default-next.ensures.cases.0))
    c.loop-founder.invariant.0))
