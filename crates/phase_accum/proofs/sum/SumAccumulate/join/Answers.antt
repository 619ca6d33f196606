-- Two sums of few sends have a sum that fits an `i128`.
use Rattle.std.proofs.Common.{◌+ℤ◌, ap₂, to_z-of_z}
use Rattle.phase_accum.specs.Operations.{MayJoin}
use Rattle.phase_accum.specs.Sums.{sum_operation}
use Rattle.phase_accum.proofs.SumBounds.{join-fits}
use Rattle.phase_accum.proofs.sum.SumAccumulate.join.Goals as goal

pub overflow_add-result : goal.overflow_add-result
overflow_add-result c =
    let may : MayJoin sum_operation c.first.inside.total c.second.inside.total =
    rw (c.first.view_is, c.second.view_is) c.requires in
    let sum_fits = (join-fits _ _ may).0 in
    let first_fits = (join-fits _ _ may).1 in
    let second_fits = (join-fits _ _ may).2 in
    simp to_z-of_z sum_fits

pub returns : goal.returns
returns c =
    let may : MayJoin sum_operation c.first.inside.total c.second.inside.total =
    rw (c.first.view_is, c.second.view_is) c.requires in
    let sum_fits = (join-fits _ _ may).0 in
    let first_fits = (join-fits _ _ may).1 in
    let second_fits = (join-fits _ _ may).2 in
    simp to_z-of_z (ap₂ ◌+ℤ◌ c.first.view_is c.second.view_is)
