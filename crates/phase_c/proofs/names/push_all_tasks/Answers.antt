-- One more name, with its line end, stands behind those before it.
use Rattle.std.proofs.Common.{◌∙◌}
use Rattle.graph_base.specs.declared.place.Place.TheVariants as place
use Rattle.phase_c.specs.Names.{name_line}
use Rattle.phase_c.proofs.Naming.{names-next}
use Rattle.phase_c.proofs.names.push_all_tasks.Goals as goal

pub loop-t-preserved : goal.loop-t-preserved
loop-t-preserved c =
    let l = c.loop-t in
    c.in_ok-push_name.ensures
    ∙ names-next (λ t. name_line c.args.graph.now (place.Task t)) c.args.names.now.items
    l.names.items l.t l.invariant
