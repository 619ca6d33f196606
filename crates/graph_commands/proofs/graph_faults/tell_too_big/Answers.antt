use Rattle.std.proofs.Common.{◌≡◌, decimal, rules}
use Rattle.graph_base.specs.Graphs.{name_at}
use Rattle.graph_commands.proofs.graph_faults.tell_too_big.Goals as goal

-- the parts are those of the line
pub returns : goal.returns
returns g c =
    let name : c.name.result.now ≡ name_at c.args.graph.now c.args.place = c.name.ensures.name in
    let number : c.format-number.result.now ≡ decimal c.args.number = search rules in
    let parts : c.as_slice.result.now ≡ _ = c.as_slice.ensures in
    let told = rw (parts, name, number) at c.say.ensures in
    told
