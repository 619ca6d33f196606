-- How a slot keeps what the first signal of its phase named.
use Rattle.std.specs.Prelude.{ℤ, Option, Some, None}
use Rattle.phase_accum.specs.Ranges.{IsRange}
use Rattle.phase_accum.specs.declared.single.Single.{Single}
use Rattle.phase_accum.specs.declared.single.Single.TheVariants as single
use Rattle.phase_ring.specs.declared.choice.Choice.{Choice}
use Rattle.phase_ring.specs.declared.choice.Choice.TheVariants.{Unsignalled, Plain, Neg, Abs, Halve, Clamp}

-- what a choice says, with the ends of a clamp beside it
abbrev pub named_of : Choice → ℤ × ℤ → Option (Option Single)
named_of Unsignalled ends = None
named_of Plain ends = Some None
named_of Neg ends = Some (Some single.Neg)
named_of Abs ends = Some (Some single.Abs)
named_of Halve ends = Some (Some single.Halve)
named_of Clamp ends = Some (Some (single.Clamp ends))

-- the ends beside the choice of a clamp are a range
abbrev pub IsNamed : Choice → ℤ × ℤ → Type 0
IsNamed Unsignalled ends = Unit {0}
IsNamed Plain ends = Unit {0}
IsNamed Neg ends = Unit {0}
IsNamed Abs ends = Unit {0}
IsNamed Halve ends = Unit {0}
IsNamed Clamp ends = IsRange ends
