use Rattle.std.proofs.Common.{◌≡◌, ◌++◌, take}
use Rattle.std.specs.List.{flat_map}
use Rattle.graph_show.specs.Drawings.{signal_arrow}
use Rattle.graph_show.proofs.arrows.put_signals.Given as goal

-- the arrows of the phasers before this one stand behind the text
abbrev pub invariant-loop-p : goal.invariant-loop-p
invariant-loop-p l = l.text.items ≡ l.fn.text.items ++ flat_map (signal_arrow l.graph l.t) (take l.p-index l.phasers)
