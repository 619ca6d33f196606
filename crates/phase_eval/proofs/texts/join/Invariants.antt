use Rattle.std.proofs.Common.{All, IfSome}
use Rattle.graph_lang.specs.PlainLines.{ArePlainLines}
use Rattle.phase_eval.specs.Texts.{IsReadPart}
use Rattle.phase_eval.proofs.texts.join.Given as goal

-- the samples so far are those of the lines up to this place
abbrev pub invariant-loop-part : goal.invariant-loop-part
invariant-loop-part l = record {
  left : All (λ part. IfSome part (IsReadPart l.text)) l.part-iterator.rest.items;
  lines : ArePlainLines l.text 0 l.at l.values.items;
}
