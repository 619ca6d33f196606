use Rattle.std.proofs.Common.{◌≡◌, List, ℕ, OnOk, codes, refl, subst}
use Rattle.graph_base.specs.Graphs.{name_at}
use Rattle.graph_base.specs.declared.place.Place.TheVariants as place
use Rattle.graph_show.specs.Drawings.{task_notes}
use Rattle.graph_show.proofs.WholeNodes.{whole-node}
use Rattle.graph_show.proofs.nodes.put_task.Goals as goal

pub returns : goal.returns
returns c =
    let P : List ℕ → Type 0 = λ text. OnOk c.put_end.result (c.put_end.new.text.items ≡ text) in
    let is = whole-node c.args.text.now.items c.put_start.new.text.items
    c.put_task_notes.new.text.items c.name.result.now (codes "box")
    (task_notes c.args.graph.now c.args.t) (name_at c.args.graph.now (place.Task c.args.t))
    (task_notes c.args.graph.now c.args.t) c.in_ok-put_start.ensures.ok
    c.in_ok-put_task_notes.ensures.ok c.name.ensures.name refl in
    record { ok = subst P is c.put_end.ensures.ok }
