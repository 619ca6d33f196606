-- One send goes behind the others: what is held and the send are parts of lists that are together
-- not too many.
use Rattle.std.proofs.Common.{[], ◌∷◌, ◌++◌, arith, to_z-of_z}
use Rattle.phase_accum.specs.Parcels.{StandsForSends, parcel}
use Rattle.phase_accum.proofs.Parts.{MayJoin-held, StandsForSends-one, StandsForSends-push, can_send}
use Rattle.phase_accum.proofs.pending.Pending.send.Goals as goal

-- what is held and the send may be joined
pub join-self-inside-requires : goal.join-self-inside-requires
join-self-inside-requires g c =
    let laws = g.met.A.Accumulate.laws in
    let op = g.A.Accumulate.operation in
    let v = c.args.value in
    let held = parcel c.self.inside.part c.self.inside.count in
    let fits = c.ranges.value in
    let is_send = can_send v fits c.if-value-eq-NO_VALUE.false in
    rw (simp to_z-of_z at c.of.ensures)
    (MayJoin-held op held (parcel (op.of v) 1) c.self.invariant.0 (v ∷ []) c.self.invariant.1
    (StandsForSends-one op v laws is_send) (omega arith))

-- the list that stood before, with the send behind it
pub invariant_of-self : goal.invariant_of-self
invariant_of-self g c =
    let laws = g.met.A.Accumulate.laws in
    let op = g.A.Accumulate.operation in
    let v = c.args.value in
    let held = parcel c.self.inside.part c.self.inside.count in
    let fits = c.ranges.value in
    let is_send = can_send v fits c.if-value-eq-NO_VALUE.false in
    rw (c.join-self-inside.ensures, simp to_z-of_z at c.of.ensures) (
      c.self.invariant.0 ++ v ∷ [],
      StandsForSends-push op held c.self.invariant.0 v laws c.self.invariant.1 is_send (omega arith),
    )

-- the same for every list
pub returns-clause-stands : goal.returns-clause-stands
returns-clause-stands g c sends stands =
    let laws = g.met.A.Accumulate.laws in
    let op = g.A.Accumulate.operation in
    let v = c.args.value in
    let held = parcel c.self.inside.part c.self.inside.count in
    let fits = c.ranges.value in
    let is_send = can_send v fits c.if-value-eq-NO_VALUE.false in
    let here : StandsForSends op held sends = rw c.self.view_is stands in
    rw (c.join-self-inside.ensures, simp to_z-of_z at c.of.ensures)
    (StandsForSends-push op held sends v laws here is_send (omega arith))
