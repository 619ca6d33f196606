use Rattle.std.proofs.Common.{◌≡◌, length, subst, ◌∙◌, sym, ap, map, Some, None}
use Rattle.std.specs.List.{range_with_len}
use Rattle.std.specs.Prelude.{IfOk}
use Rattle.stream_lists.specs.Lists.{number_in}
use Rattle.stream_lists.specs.Ranges.{first_fault}
use Rattle.stream_lists.specs.Spans.{schedule_of}
use Rattle.stream_eval.specs.Composing.{member_of, HasParts}
use Rattle.stream_eval.proofs.numbers.reduced.Goals as goal

-- the parts are those of the members, one for each phase
pub returns-clause-ok : goal.returns-clause-ok
returns-clause-ok g c =
    let op = g.A.Accumulate.operation in
    let members = map member_of c.args.members.now in
    let has = subst (λ ps. HasParts op ps members) (sym c.deref.ensures.value)
    c.in-Ok.ensures.parts in
    let as_many = ap length c.deref.ensures.value ∙ (c.in-Ok.ensures.length
    ∙ (c.in-Some.ensures ∙ c.length.ensures.length)) in
    subst (λ m. IfOk c.numbers.result (λ list. list.items
    ≡ map (number_in op.value c.args.job.now c.args.p members) (range_with_len 0 m)))
    as_many (c.numbers.ensures.ok members has)

pub returns-clause-fits : goal.returns-clause-fits
returns-clause-fits g c =
    let op = g.A.Accumulate.operation in
    let members = map member_of c.args.members.now in
    let has = subst (λ ps. HasParts op ps members) (sym c.deref.ensures.value)
    c.in-Ok.ensures.parts in
    let as_many = ap length c.deref.ensures.value ∙ (c.in-Ok.ensures.length
    ∙ (c.in-Some.ensures ∙ c.length.ensures.length)) in
    subst (λ m. IfOk c.numbers.result (λ list.
    first_fault op.value c.args.job.now (schedule_of c.args.job.now) members c.args.p m ≡ None))
    as_many (c.numbers.ensures.fits members has)

pub returns-clause-too_big : goal.returns-clause-too_big
returns-clause-too_big g c place n e =
    let op = g.A.Accumulate.operation in
    let members = map member_of c.args.members.now in
    let has = subst (λ ps. HasParts op ps members) (sym c.deref.ensures.value)
    c.in-Ok.ensures.parts in
    let as_many = ap length c.deref.ensures.value ∙ (c.in-Ok.ensures.length
    ∙ (c.in-Some.ensures ∙ c.length.ensures.length)) in
    let found = c.numbers.ensures.too_big place n e members has in (
      found.0,
      subst (λ m. first_fault op.value c.args.job.now (schedule_of c.args.job.now) members c.args.p m
          ≡ Some n)
          as_many found.1,
    )
