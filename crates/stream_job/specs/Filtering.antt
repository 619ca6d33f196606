-- What a filter makes of some numbers.
use Rattle.std.specs.Prelude.{◌≡◌, ℤ, List, ◌++◌, map, Option, Result}
use Rattle.graph_base.specs.Graphs.{Task}
use Rattle.stream_filters.specs.declared.fault.TooBigValue.{TooBigValue}
use Rattle.stream_filters.specs.Filter.{FirState}
use Rattle.stream_filters.specs.Range.{ranged}
use Rattle.graph_runs.specs.Steps.{HasFilter}
use Rattle.graph_runs.specs.TaskPlaces.{outputs_of_block}

-- the filter of a task has taken these numbers, and its answers to them stand behind those before
pub record HasFiltered (task : Task) (xs : List ℤ) (old new : Option FirState)
    (made after : List (Result ℤ TooBigValue)) : Type 0 where
  pub answers : (taken : List ℤ) → HasFilter task old taken
      → after ≡ made ++ map ranged (outputs_of_block task.taps task.form taken xs)
  pub filter : (taken : List ℤ) → HasFilter task old taken → HasFilter task new (taken ++ xs)
