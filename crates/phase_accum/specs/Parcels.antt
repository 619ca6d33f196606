-- The sends that a task holds, seen as their part and their number. The code keeps no list.
use Rattle.std.specs.Prelude.{◌≡◌, ℕ, ℤ, List, length}
use Rattle.phase_accum.specs.Operations.{Operation, IsPartOf}

-- a part, and a number of sends
pub record Parcel (A : Type 0) : Type 0 where
  pub part : A
  pub count : ℕ

-- these two as a parcel
abbrev pub parcel : {A : Type 0} → A → ℕ → Parcel A
parcel part count = record { part = part; count = count }

-- these sends are held, in their order
pub record StandsForSends {A : Type 0} (op : Operation A) (held : Parcel A) (sends : List ℤ)
    : Type 0 where
  pub part_is : IsPartOf op held.part sends
  pub count_is : held.count ≡ length sends
