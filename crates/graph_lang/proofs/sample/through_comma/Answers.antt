-- The first comma that was found.
use Rattle.std.proofs.Common.{inr}
use Rattle.graph_lang.proofs.Commas.{through-comma}
use Rattle.graph_lang.proofs.sample.through_comma.Goals as goal

pub returns-in-Some : goal.returns-in-Some
returns-in-Some c =
    let found = c.in-Some.ensures in
    record { part = inr (through-comma c.args.text.now c.in-Some.at found.0.high found.1) }
