use Rattle.std.proofs.Common.{rules, ◌≡◌, ◌*ℤ◌, ◌-ℤ◌, FitsSigned}
use Rattle.std.specs.Int.{w128}
use Rattle.std.proofs.lemmas.Int.{to_z-of_z}
use Rattle.stream_filters.proofs.peer.Peer.mix.Goals as goal

-- 128 bits hold the product, and what is left of it
pub returns : goal.returns
returns c =
    let mul = c.ranges.mul in
    let x = c.ranges.x in
    let e = c.ranges.e in
    let product : c.product.result ≡ c.args.mul *ℤ c.args.x = simp to_z-of_z at c.product.ensures.value in
    let taken : c.from.result ≡ c.args.e = simp to_z-of_z at c.from.ensures in
    let product_fits : FitsSigned w128 c.product.result = search rules in
    let taken_fits : FitsSigned w128 c.from.result = search rules in
    let fits : FitsSigned w128 (c.product.result -ℤ c.from.result) = search rules in
    rw (← product, ← taken) (simp to_z-of_z at c.in_range.ensures)
