-- Which singles a signal can name, and singles that are compared, as a signal's with that of the
-- first signal of its phase.
use Rattle.std.specs.Prelude.{Option, Some, None, Bool, true, false, not, ◌&&◌}
use Rattle.std.specs.Ordering.{int_eq}
use Rattle.phase_accum.specs.Ranges.{IsRange}
use Rattle.phase_accum.specs.declared.single.Single.{Single}
use Rattle.phase_accum.specs.declared.single.Single.TheVariants.{Neg, Abs, Halve, Clamp}

-- what a signal can name: no single, or one that can be made. A clamp can be where its ends are a
-- range
abbrev pub CanBeNamed : Option Single → Type 0
CanBeNamed (Some (Clamp range)) = IsRange range
CanBeNamed _ = Unit {0}

-- whether two singles are the same
abbrev pub is_same : Single → Single → Bool
is_same Neg Neg = true
is_same Abs Abs = true
is_same Halve Halve = true
is_same (Clamp range) (Clamp other) = int_eq range.0 other.0 && int_eq range.1 other.1
is_same _ _ = false

-- whether a signal that names `single`, or none, joins signals that named otherwise
abbrev pub differs : Option (Option Single) → Option Single → Bool
differs None single = false
differs (Some None) None = false
differs (Some (Some named)) (Some single) = not (is_same named single)
differs _ _ = true
