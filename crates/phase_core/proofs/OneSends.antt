-- Values that can be sent, and places that hold one send each.
use Rattle.std.proofs.Common.{ℕ, suc, ◌+◌, ◌<◌, ◌≤◌, List, [], ◌∷◌, ◌++◌, ℤ, length, take, get_or, set, arith}
use Rattle.std.specs.Prelude.{unsigned_abs}
use Rattle.std.specs.List.{All}
use Rattle.std.proofs.lemmas.List.{map_more, take_more_set}
use Rattle.phase_ring.proofs.Held.{AreSends-at}
use Rattle.phase_accum.specs.Operations.{Operation}
use Rattle.phase_accum.specs.Parcels.{Parcel, StandsForSends}
use Rattle.phase_accum.specs.Sends.{AreSends, value_max}
use Rattle.phase_core.specs.Blocks.{StandForLists, one_each}

-- those of which each is small are those that can be sent
pub small-sends : (values : List ℤ) → All (λ v. unsigned_abs v ≤ value_max) values
    → AreSends values
small-sends [] all = tt
small-sends (v ∷ values) all = (
  record { small = all 0 v (omega arith) },
  small-sends values (λ k d within. all (suc k) d (omega arith)),
)

pub sends-small : (values : List ℤ) → AreSends values
    → All (λ v. unsigned_abs v ≤ value_max) values
sends-small values are = λ k d within. (AreSends-at values k d are within).small

stand-push : {A : Type 0} (op : Operation A) (held : List (Parcel A)) (lists : List (List ℤ))
    (more : Parcel A) (sends : List ℤ) → StandForLists op held lists
    → StandsForSends op more sends → StandForLists op (held ++ more ∷ []) (lists ++ sends ∷ [])
stand-push op [] [] more sends stand stands = (stands, tt)
stand-push op [] (list ∷ lists) more sends stand stands = absurd stand
stand-push op (first ∷ held) [] more sends stand stands = absurd stand
stand-push op (first ∷ held) (list ∷ lists) more sends stand stands =
    (stand.0, stand-push op held lists more sends stand.1 stands)

-- one more value stands in its place
pub stand_more : {A : Type 0} (op : Operation A) (places : List (Parcel A)) (values : List ℤ)
    (i : ℕ) (held : Parcel A) (d : ℤ) → i < length places → i < length values
    → StandForLists op (take i places) (one_each (take i values))
    → StandsForSends op held (get_or values i d ∷ [])
    → StandForLists op (take (i + 1) (set places i held)) (one_each (take (i + 1) values))
stand_more {A} op places values i held d there within stand stands =
    let one : ℤ → List ℤ = λ v. v ∷ [] in
    rw (take_more_set places i held there, map_more one values i d within)
    (stand-push op (take i places) (one_each (take i values)) held (get_or values i d ∷ []) stand
    stands)
