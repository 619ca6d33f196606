use Rattle.std.proofs.Common.{subst}
use Rattle.stream_filters.specs.Filter.{IsPlainForm}
use Rattle.stream_filters.proofs.Firs.{HasStepped-weighed}
use Rattle.stream_filters.proofs.fir.Fir.block.Goals as goal

-- its weigher made them at once
pub returns-then-makes_at_once-clause-steps : goal.returns-then-makes_at_once-clause-steps
returns-then-makes_at_once-clause-steps c =
    let w = c.self.inside.weigher in
    let plain : IsPlainForm w.form = subst IsPlainForm c.form.ensures.form
    (c.is_plain.ensures.0 c.if-is_plain.true) in
    rw (← c.self.view_is) (HasStepped-weighed w c.makes_at_once.new.self c.self.inside.again.items
    c.self.inside.puts.items c.args.samples.now c.args.made.now.items
    c.makes_at_once.new.made.items c.self.invariant.again plain
    (c.makes_at_once.ensures.all c.if-makes_at_once.true))
