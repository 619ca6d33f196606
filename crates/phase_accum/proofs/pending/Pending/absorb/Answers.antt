-- Two lists of sends are put together, which the counts allow.
use Rattle.std.proofs.Common.{◌++◌}
use Rattle.phase_accum.specs.Parcels.{StandsForSends, parcel}
use Rattle.phase_accum.proofs.Parts.{StandsForSends-append}
use Rattle.phase_accum.proofs.pending.Pending.absorb.Goals as goal

-- the two lists that stood before, put together
pub invariant_of-self : goal.invariant_of-self
invariant_of-self g c =
    let held = parcel c.self.inside.part c.self.inside.count in
    let other = parcel c.other.inside.part c.other.inside.count in
    let few = rw (← c.self.view_is, ← c.other.view_is) at c.requires in
    rw c.join-self-inside.ensures (
      c.self.invariant.0 ++ c.other.invariant.0,
      StandsForSends-append g.A.Accumulate.operation held other c.self.invariant.0 c.other.invariant.0
          g.met.A.Accumulate.laws c.self.invariant.1 c.other.invariant.1 few,
    )

-- the same for all lists
pub returns-clause-stands : goal.returns-clause-stands
returns-clause-stands g c sends others stands others_stand =
    let op = g.A.Accumulate.operation in
    let held = parcel c.self.inside.part c.self.inside.count in
    let other = parcel c.other.inside.part c.other.inside.count in
    let few = rw (← c.self.view_is, ← c.other.view_is) at c.requires in
    let here : StandsForSends op held sends = rw c.self.view_is stands in
    let there : StandsForSends op other others = rw c.other.view_is others_stand in
    rw c.join-self-inside.ensures
    (StandsForSends-append op held other sends others g.met.A.Accumulate.laws here there few)
