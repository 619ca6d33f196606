use Rattle.std.proofs.Common.{◌≡◌, take}
use Rattle.std.specs.List.{flat_map}
use Rattle.graph_commands.specs.Explained.{further_line}
use Rattle.graph_commands.proofs.further.laid_out.Given as goal

-- the texts before this one stand as lines
abbrev pub invariant-loop-text : goal.invariant-loop-text
invariant-loop-text l =
    l.more.items ≡ flat_map (λ text. further_line text.items) (take l.text-index l.texts)
