use Rattle.std.proofs.Common.{◌∙◌, ap, take}
use Rattle.std.proofs.lemmas.List.{take_min}
use Rattle.graph_commands.proofs.records.front_of.Goals as goal

pub returns : goal.returns
returns c = ap (λ n. take n c.args.text.now) c.min-end.ensures ∙ take_min 60 c.args.text.now
