use Rattle.std.proofs.Common.{All, IfSome}
use Rattle.stream_eval.specs.Parts.{ArePart}
use Rattle.stream_filters.specs.Filter.{outputs}
use Rattle.phase_eval.specs.FilterParts.{IsFilterPart}
use Rattle.phase_eval.proofs.filtering.join.Given as goal

-- the values so far are those up to this place
abbrev pub invariant-loop-part : goal.invariant-loop-part
invariant-loop-part l = record {
  left : All (λ part. IfSome part (IsFilterPart (outputs l.taps l.fn.form l.samples)))
      l.part-iterator.rest.items;
  values : ArePart (outputs l.taps l.fn.form l.samples) 0 l.at l.values.items;
}
