-- It stands for the one send.
use Rattle.std.proofs.Common.{◌≡◌, [], ◌∷◌, refl, ◌∙◌, ap, to_z-of_z}
use Rattle.phase_accum.proofs.Parts.{IsPartOf-one}
use Rattle.phase_ring.proofs.slot.Slot.of_one.Goals as goal

pub returns-clause-held : goal.returns-clause-held
returns-clause-held g c =
    let op = g.A.Accumulate.operation in
    let v = c.args.value in
    let is : c.of.result ≡ op.of v = c.of.ensures ∙ ap op.of (to_z-of_z c.ranges.value) in
    let part = IsPartOf-one op v g.met.A.Accumulate.laws c.requires in
    (v ∷ [], record { part_is = rw is part; count_is = refl })
