use Rattle.std.proofs.Common.{◌≡◌, map, take}
use Rattle.graph_text.proofs.Kept.{kept}
use Rattle.graph_text.proofs.text.words_of.Given as goal

abbrev pub invariant-loop-piece : goal.invariant-loop-piece
invariant-loop-piece l = map (λ x. x.now) l.words.items ≡ kept (take l.piece-index l.piece-items)
