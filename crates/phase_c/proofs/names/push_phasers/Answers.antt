-- One more name, with its line end, stands behind those before it.
use Rattle.std.proofs.Common.{◌∙◌}
use Rattle.graph_base.specs.declared.place.Place.TheVariants as place
use Rattle.phase_c.specs.Names.{name_line}
use Rattle.phase_c.proofs.Naming.{names-next}
use Rattle.phase_c.proofs.names.push_phasers.Goals as goal

pub loop-p-preserved : goal.loop-p-preserved
loop-p-preserved c =
    let l = c.loop-p in
    c.in_ok-push_name.ensures
    ∙ names-next (λ p. name_line c.args.graph.now (place.Phaser p)) c.args.names.now.items
    l.names.items l.p l.invariant
