use Rattle.std.proofs.Common.{◌≡◌, List, ℕ, OnOk, codes, ap, subst}
use Rattle.graph_base.specs.Graphs.{name_at, phaser_at}
use Rattle.graph_base.specs.declared.place.Place.TheVariants as place
use Rattle.graph_show.specs.Drawings.{phaser_notes}
use Rattle.graph_show.proofs.WholeNodes.{whole-node}
use Rattle.graph_show.proofs.nodes.put_phaser.Goals as goal

pub returns : goal.returns
returns c =
    let P : List ℕ → Type 0 = λ text. OnOk c.put_end.result (c.put_end.new.text.items ≡ text) in
    let is = whole-node c.args.text.now.items c.put_start.new.text.items
    c.put_phaser_notes.new.text.items c.name.result.now (codes "ellipse")
    (phaser_notes c.phaser.result.now) (name_at c.args.graph.now (place.Phaser c.args.p))
    (phaser_notes (phaser_at c.args.graph.now c.args.p)) c.in_ok-put_start.ensures.ok
    c.in_ok-put_phaser_notes.ensures.ok c.name.ensures.name
    (ap phaser_notes c.phaser.ensures.phaser) in
    record { ok = subst P is c.put_end.ensures.ok }
