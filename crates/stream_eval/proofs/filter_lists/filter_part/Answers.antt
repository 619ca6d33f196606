use Rattle.std.proofs.Common.{◌≤◌, ◌<◌, ◌-◌, ◌+◌, ◌⊎◌, inl, inr, length, drop, ap, subst, sym, ◌∙◌, arith}
use Rattle.std.proofs.lemmas.Bool.{cases_lt}
use Rattle.stream_filters.specs.Filter.{outputs, reach}
use Rattle.stream_filters.proofs.Outputs.{outputs-length}
use Rattle.stream_eval.specs.Parts.{ArePart}
use Rattle.stream_eval.proofs.Parts.{IfSome-weaker, filter-part, length-with_lead, with_lead}
use Rattle.stream_eval.proofs.filter_lists.filter_part.Goals as goal

-- there is an output for each sample in front
pub behind-requires : goal.behind-requires
behind-requires c =
    let shown = with_lead c.args.samples.now c.min-lead.result c.args.from c.args.to in
    omega (
      arith,
      c.min-lead.ensures,
      c.requires.order,
      c.requires.within,
      ap length c.deref.ensures.value,
      ap length c.in-Ok.ensures.ok,
      outputs-length c.args.taps.now c.args.form shown,
      length-with_lead c.args.samples.now c.min-lead.result c.args.from c.args.to
          (omega (arith, c.min-lead.ensures)) c.requires.order c.requires.within,
    )

-- those are left out: as many are in front as a filter looks back at, or all that there are
pub returns-in-Ok : goal.returns-in-Ok
returns-in-Ok c =
    let lead = c.min-lead.result in
    let whole = outputs c.args.taps.now c.args.form c.args.samples.now in
    let part = filter-part c.args.taps.now c.args.samples.now c.in-Ok.list.items c.args.form lead
    c.args.from c.args.to (omega (arith, c.if-form-gt0.false)) (omega (arith, c.min-lead.ensures))
    c.requires.order c.requires.within
    (enough (cases_lt c.args.from (reach c.args.taps.now c.args.form - 1))) c.in-Ok.ensures.ok
    c.in-Ok.ensures.in_range in
    IfSome-weaker c.behind.result _ _
    (λ values is. subst (ArePart whole c.args.from c.args.to)
    (sym (is ∙ ap (drop lead) c.deref.ensures.value)) part) c.behind.ensures
  where
    enough : (c.args.from < reach c.args.taps.now c.args.form - 1)
        ⊎ (reach c.args.taps.now c.args.form - 1 ≤ c.args.from)
        → (c.args.from ≤ c.min-lead.result)
        ⊎ (reach c.args.taps.now c.args.form ≤ c.min-lead.result + 1)
    enough (inl less) = inl (omega (arith, c.min-lead.ensures))
    enough (inr more) = inr (omega (arith, c.min-lead.ensures))
