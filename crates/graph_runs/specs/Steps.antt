-- What the code of a task keeps of its step.
use Rattle.std.specs.Prelude.{◌≡◌, [], ◌∷◌, List, ℤ, Option, Some}
use Rattle.stream_filters.specs.Filter.{FirState, StandsFor}
use Rattle.graph_base.specs.declared.line.Kind.TheVariants.{Fir}
use Rattle.graph_base.specs.Graphs.{Task}
use Rattle.graph_runs.specs.TaskPlaces as turns
use Rattle.graph_runs.specs.declared.owed.Owed.{Owed}
use Rattle.graph_runs.specs.declared.owed.Owed.TheVariants as code

-- what is owed, by the definitions
abbrev pub owed_of : Owed → turns.Owed
owed_of code.Nothing = turns.nothing
owed_of (code.Value output value) = turns.values output (value ∷ [])
owed_of (code.Exchange x) = turns.exchange x

-- a filter task has the filter of its line, which has taken these values
abbrev pub HasFilter : Task → Option FirState → List ℤ → Type 0
HasFilter task filter taken =
    task.kind ≡ Fir
    → (fir : FirState) × (filter ≡ Some fir) × (fir.taps ≡ task.taps)
    × (fir.form ≡ task.form) × StandsFor fir taken
