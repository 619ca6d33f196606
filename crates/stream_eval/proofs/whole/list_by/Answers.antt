use Rattle.std.proofs.Common.{arith, ◌≡◌, map, Some, None, Err, ap, sym, ◌∙◌}
use Rattle.std.proofs.lemmas.Result.{IfOk-weaker}
use Rattle.stream_lists.specs.JobFields.{items_of}
use Rattle.stream_eval.specs.Composing.{member_of}
use Rattle.stream_eval.specs.declared.fault.EvalFault.TheVariants as fault
use Rattle.stream_eval.proofs.Alone.{numbers-alone, fault-alone}
use Rattle.stream_eval.proofs.Composed.{fault-member, fault-phase, list-over}
use Rattle.stream_eval.proofs.whole.list_by.Goals as goal

-- a value that a member makes is out of range
pub returns-in-Err-clause-too_big : goal.returns-in-Err-clause-too_big
returns-in-Err-clause-too_big g c place n e =
    let same : c.in-Err.fault ≡ fault.TooBig place n = grind (arith, e) in
    fault-member c.args.job.now (items_of c.args.above.now) c.args.p (place, n)
    (c.members_on.ensures.too_big place n (c.in-Err.is ∙ ap Err same))

-- the only member's values are the list
pub returns-in-Ok-only_values-clause-ok : goal.returns-in-Ok-only_values-clause-ok
returns-in-Ok-only_values-clause-ok g c =
    let value = g.A.Accumulate.operation.value in
    let only = c.in-Ok-only_values in
    let members = map member_of c.in-Ok.members.items in
    list-over c.args.job.now (items_of c.args.above.now) c.args.p members value only.values.items
    c.in-Ok.ensures.ok c.requires.value
    (numbers-alone c.args.job.now c.args.p value members only.values.items
    c.requires.value only.ensures.plain only.ensures.alone only.ensures.length only.ensures.sends)

-- none of which is too big
pub returns-in-Ok-only_values-clause-fits : goal.returns-in-Ok-only_values-clause-fits
returns-in-Ok-only_values-clause-fits g c =
    let value = g.A.Accumulate.operation.value in
    let only = c.in-Ok-only_values in
    let members = map member_of c.in-Ok.members.items in
    fault-phase c.args.job.now (items_of c.args.above.now) c.args.p members value None
    c.in-Ok.ensures.fits c.in-Ok.ensures.ok c.requires.value
    (fault-alone c.args.job.now c.args.p value members only.values.items
    c.requires.value only.ensures.alone only.ensures.length only.ensures.sends)

-- the numbers are those of the list
pub returns-clause-ok : goal.returns-clause-ok
returns-clause-ok g c =
    let lent = c.deref.ensures.value ∙ c.in-Err-only_values.ensures.others in
    let members = ap (map member_of) lent ∙ c.in-Ok.ensures.ok in
    IfOk-weaker c.reduced.result _ _
    (λ list is. list-over c.args.job.now (items_of c.args.above.now) c.args.p _
    g.A.Accumulate.operation.value list.items members c.requires.value is)
    c.reduced.ensures.ok

-- no value of a member and no phase is out of range
pub returns-clause-fits : goal.returns-clause-fits
returns-clause-fits g c =
    let lent = c.deref.ensures.value ∙ c.in-Err-only_values.ensures.others in
    let members = ap (map member_of) lent ∙ c.in-Ok.ensures.ok in
    IfOk-weaker c.reduced.result _ _
    (λ list none. fault-phase c.args.job.now (items_of c.args.above.now) c.args.p _
    g.A.Accumulate.operation.value None c.in-Ok.ensures.fits members c.requires.value none)
    c.reduced.ensures.fits

-- a phase is
pub returns-clause-too_big : goal.returns-clause-too_big
returns-clause-too_big g c place n e =
    let lent = c.deref.ensures.value ∙ c.in-Err-only_values.ensures.others in
    let members = ap (map member_of) lent ∙ c.in-Ok.ensures.ok in
    let found = c.reduced.ensures.too_big place n e in
    fault-phase c.args.job.now (items_of c.args.above.now) c.args.p _
    g.A.Accumulate.operation.value (Some n) c.in-Ok.ensures.fits members c.requires.value found.1
    ∙ ap (λ w. Some (w, n)) (sym found.0)
