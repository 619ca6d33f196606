use Rattle.std.proofs.Common.{◌≡◌, ◌++◌, take}
use Rattle.std.specs.List.{flat_map}
use Rattle.graph_show.proofs.parts.put.Given as goal

-- the parts before this one stand behind the text
abbrev pub invariant-loop-part : goal.invariant-loop-part
invariant-loop-part l =
    l.text.items ≡ l.fn.text.items ++ flat_map (λ part. part.now) (take l.part-index l.parts)
