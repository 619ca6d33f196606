-- What is kept of a phase.
use Rattle.std.specs.Prelude.{ℕ, Option}
use Rattle.phase_accum.specs.declared.single.Single.{Single}

-- of one phase: the part of its sends, their number, and what its first signal named, as
-- `named_in_phase` has it
pub record KeptSlot (A : Type 0) : Type 0 where
  pub part : A
  pub count : ℕ
  pub named : Option (Option Single)
