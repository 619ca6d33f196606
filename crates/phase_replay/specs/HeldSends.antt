-- The sends that tasks hold, as the parts that are kept of them: a list of task numbers with
-- parcels.
use Rattle.std.specs.Prelude.{ℕ, List, nat_eq, unwrap_or}
use Rattle.std.specs.Map.{lookup}
use Rattle.phase_accum.specs.Operations.{Operation}
use Rattle.phase_accum.specs.Parcels.{Parcel, parcel}

-- what is kept of the sends of each task
abbrev pub Parcels : Type 0 → Type 0
Parcels A = List (ℕ × Parcel A)

-- what is kept of no send
abbrev pub nothing : {A : Type 0} → Operation A → Parcel A
nothing op = parcel op.unit 0

-- what is kept of the sends of a task, and nothing of one that is not listed
abbrev pub held_at : {A : Type 0} → Operation A → Parcels A → ℕ → Parcel A
held_at op parcels task = unwrap_or (lookup (nat_eq task) parcels) (nothing op)
