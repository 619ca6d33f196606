use Rattle.std.proofs.Common.{◌++◌, codes, decimal, drop, inl, refl}
use Rattle.std.proofs.lemmas.List.{take_rest}
use Rattle.std.proofs.lemmas.Result.{IfOk-weaker}
use Rattle.graph_commands.specs.Explained.{TellsLine}
use Rattle.graph_commands.specs.Records.{line_at, shown_of}
use Rattle.graph_commands.proofs.records.record_told.Goals as goal

-- the record is told by the text from there on
pub returns : goal.returns
returns c =
    let samples = c.args.samples.now in
    let at = c.in-Some.at in
    let place = codes ", line " ++ decimal (line_at samples at) ++ codes ": " ++ shown_of (drop at samples) in
    let line : TellsLine samples c.args.number place =
    record { at = at; start = c.in-Some.ensures.some; is = refl } in
    IfOk-weaker c.told_from.result _ _
    (λ front from. record {
      place = place;
      place_is = inl line;
      more = from.more;
      more_are = from.more_are;
      is = from.is;
    })
    (rw (take_rest samples at, c.line_at-line.ensures) at c.told_from.ensures)
