-- Parts of the list of a filter.
use Rattle.std.specs.Prelude.{◌≤◌, ℤ, List, length}
use Rattle.stream_eval.specs.Parts.{ArePart}
use Rattle.phase_eval.specs.declared.filtering.FilterPart.{FilterPart}

-- the values of a part of a list
pub record IsFilterPart (whole : List ℤ) (part : FilterPart) : Type 0 where
  pub order : part.from ≤ part.to
  pub within : part.to ≤ length whole
  pub values : ArePart whole part.from part.to part.values.items
