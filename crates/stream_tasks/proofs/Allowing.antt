-- The steps that `until` allows.
use Rattle.std.proofs.Common.{◌≡◌, ℕ, ◌+◌, ◌-◌, ◌≤◌, Some, None, refl, arith}
use Rattle.std.specs.Prelude.{Option, min}
use Rattle.graph_runs.specs.Moments.{AtMost}
use Rattle.graph_runs.specs.NextBlocks.{until_allows}

-- none of them is past it
pub within : (until : Option ℕ) (begun wanted steps : ℕ) → steps ≤ until_allows until begun wanted
    → 1 ≤ steps → AtMost (begun + steps) until
within None begun wanted steps few some = tt
within (Some until) begun wanted steps few some =
    let least : steps ≤ min wanted (until - begun) = few in omega arith

-- they are no more than are wanted
pub allows_few : (until : Option ℕ) (begun wanted : ℕ) → until_allows until begun wanted ≤ wanted
allows_few None begun wanted = omega arith
allows_few (Some until) begun wanted =
    let least : until_allows (Some until) begun wanted ≡ min wanted (until - begun) = refl in
    omega (arith, least)
