use Rattle.std.proofs.Common.{◌≡◌, ℕ, Some, None, Err, subst}
use Rattle.std.specs.Prelude.{OnOk}
use Rattle.std.specs.List.{position_from}
use Rattle.stream_filters.specs.Filter.{outputs}
use Rattle.stream_filters.specs.Range.{is_out_of_range}
use Rattle.stream_filters.specs.Weighing.{weighed}
use Rattle.stream_filters.specs.declared.fault.FilterFault.TheVariants.{TooBig}
use Rattle.stream_filters.proofs.PlainLists.{plain-list}
use Rattle.stream_filters.proofs.whole_list.add_outputs.Goals as goal
use Rattle.stream_filters.proofs.whole_list.add_outputs.Goals.{After-add_all}

-- the outputs of a plain filter are what its taps weigh
same : (c : After-add_all) → weighed c.args.taps.now c.args.form.now c.args.samples.now
    ≡ outputs c.args.taps.now c.args.form.now c.args.samples.now
same c =
    plain-list c.args.taps.now c.args.form.now c.args.samples.now
    (c.is_plain.ensures.0 c.if-is_plain.true)

pub returns-then-is_plain-clause-ok : goal.returns-then-is_plain-clause-ok
returns-then-is_plain-clause-ok c =
    subst (λ l. OnOk c.add_all.result (c.add_all.new.list.items ≡ l)) (same c)
    c.add_all.ensures.ok

pub returns-then-is_plain-clause-in_range : goal.returns-then-is_plain-clause-in_range
returns-then-is_plain-clause-in_range c =
    subst (λ l. OnOk c.add_all.result (position_from is_out_of_range 0 l ≡ None)) (same c)
    c.add_all.ensures.in_range

pub returns-then-is_plain-clause-too_big : goal.returns-then-is_plain-clause-too_big
returns-then-is_plain-clause-too_big c =
    subst (λ l. (step : ℕ) → c.add_all.result ≡ Err (TooBig step)
    → position_from is_out_of_range 0 l ≡ Some step) (same c) c.add_all.ensures.too_big
