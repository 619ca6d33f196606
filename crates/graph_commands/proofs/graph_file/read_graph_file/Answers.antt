use Rattle.graph_commands.specs.Explained.{IsTextOf}
use Rattle.graph_commands.proofs.graph_file.read_graph_file.Goals as goal

-- the file was read, and its text gives a graph
pub returns-in-Ok-graph_of_text-clause-ok : goal.returns-in-Ok-graph_of_text-clause-ok
returns-in-Ok-graph_of_text-clause-ok g c =
    let known = g.F.Files.file c.args.files.now in
    let of : IsTextOf known c.args.name.now c.deref.result.now = rw c.deref.ensures.value
    (record { bytes = c.in-Ok.ensures.bytes; short = c.in-Ok.ensures.short }) in
    c.in-Ok-graph_of_text.ensures.ok known c.args.name.now of

-- its text gives none
pub returns-in-Ok-clause-failed : goal.returns-in-Ok-clause-failed
returns-in-Ok-clause-failed g c =
    let known = g.F.Files.file c.args.files.now in
    let here : IsTextOf known c.args.name.now c.in-Ok.text.items =
    record { bytes = c.in-Ok.ensures.bytes; short = c.in-Ok.ensures.short } in
    record {
      explains = c.in-Err-graph_of_text.ensures.fault known c.args.name.now
          (rw c.deref.ensures.value here);
      text_of = λ _. here;
    }
