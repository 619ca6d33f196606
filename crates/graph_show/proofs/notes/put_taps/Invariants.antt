use Rattle.std.proofs.Common.{◌≡◌, ◌++◌, take}
use Rattle.std.specs.List.{flat_map}
use Rattle.graph_show.specs.Drawings.{tap_text}
use Rattle.graph_show.proofs.notes.put_taps.Given as goal

-- the taps before this one stand behind the text
abbrev pub invariant-loop-tap : goal.invariant-loop-tap
invariant-loop-tap l = l.text.items ≡ l.fn.text.items ++ flat_map tap_text (take l.tap-index l.taps)
