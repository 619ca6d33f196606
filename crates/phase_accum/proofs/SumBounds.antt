-- The sum of as many sends as a phase may have fits an `i128`.
use Rattle.std.proofs.Common.{◌*◌, ◌≤◌, ℤ, ◌+ℤ◌, unsigned_abs, List, [], ◌∷◌, length, ◌∙◌, arith, FitsSigned}
use Rattle.std.proofs.lemmas.Int.{ints}
use mir.Syntax.{w128}
use Rattle.phase_accum.specs.Values.{sum_of}
use Rattle.phase_accum.specs.Sends.{AreSends, value_max}
use Rattle.phase_accum.specs.Operations.{MayJoin, IsPartOf}
use Rattle.phase_accum.specs.Sums.{sum_operation, part-sum}

-- the sum of sends has at most their number times the greatest magnitude
pub sum_of-small : (xs : List ℤ) → AreSends xs → unsigned_abs (sum_of xs) ≤ length xs * value_max
sum_of-small [] s = omega (arith, ints)
sum_of-small (x ∷ xs) s =
    let few = sum_of-small xs s.1 in
    let one = s.0.small in
    omega (arith, ints)

-- a part of the sum has at most that magnitude
part-small : (x : ℤ) (xs : List ℤ) → IsPartOf sum_operation x xs
    → unsigned_abs x ≤ length xs * value_max
part-small x xs h = rw (h.is ∙ part-sum xs) (sum_of-small xs h.are_sends)

-- two parts that may be joined have a sum that fits
pub join-fits : (x y : ℤ) → MayJoin sum_operation x y
    → FitsSigned w128 (x +ℤ y) × FitsSigned w128 x × FitsSigned w128 y
join-fits x y may =
    let x_small = part-small x may.first may.first_part in
    let y_small = part-small y may.second may.second_part in
    let few = may.few in
    (omega (arith, ints), omega (arith, ints), omega (arith, ints))
