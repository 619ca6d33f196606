-- One more name, with its line end, stands behind those before it.
use Rattle.std.proofs.Common.{◌∙◌}
use Rattle.graph_base.specs.declared.place.Place.TheVariants as place
use Rattle.phase_c.specs.Names.{name_line}
use Rattle.phase_c.proofs.Naming.{names-more}
use Rattle.phase_c.proofs.names.push_tasks.Goals as goal

pub loop-k-preserved : goal.loop-k-preserved
loop-k-preserved c =
    let l = c.loop-k in
    c.in_ok-push_name.ensures
    ∙ names-more (λ t. name_line c.args.graph.now (place.Task t)) c.args.names.now.items
    l.names.items c.args.tasks.now l.k c.loop-k-test.true l.invariant
