use Rattle.std.proofs.Common.{◌≡◌, sym, subst, Some}
use Rattle.graph_base.specs.Graphs.{Graph, IsPlace}
use Rattle.graph_base.specs.Names.{place_of}
use Rattle.graph_base.proofs.Readers.{name-few}
use Rattle.graph_base.proofs.graph.Graph.name.Goals as goal

-- each place has a name of the grammar
pub returns-clause-word : goal.returns-clause-word
returns-clause-word c =
    let Is : Graph → Type 0 = λ graph. IsPlace graph c.args.place in
    let there = subst Is (sym c.self.view_is) c.requires in
    rw c.name_among.ensures (c.self.invariant.names.names c.args.place there)

pub returns-clause-few : goal.returns-clause-few
returns-clause-few c =
    let Is : Graph → Type 0 = λ graph. IsPlace graph c.args.place in
    let there = subst Is (sym c.self.view_is) c.requires in
    name-few c.name_among.result.now
    (rw c.name_among.ensures (c.self.invariant.names.names c.args.place there))

-- and that name stands for it
pub returns-clause-stands : goal.returns-clause-stands
returns-clause-stands c =
    let place = c.args.place in
    let Is : Graph → Type 0 = λ graph. IsPlace graph place in
    let there = subst Is (sym c.self.view_is) c.requires in
    let name = c.name_among.result.now in
    let In : Graph → Type 0 = λ graph. place_of graph.names name ≡ Some place in
    subst In c.self.view_is
    (rw c.name_among.ensures (c.self.invariant.names.known place there))
