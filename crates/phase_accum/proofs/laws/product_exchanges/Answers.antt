use Rattle.phase_accum.proofs.Orders.{Exchanges-product}
use Rattle.phase_accum.proofs.laws.product_exchanges.Goals as goal

-- the product of a list is joined from those of its pieces
pub returns : goal.returns
returns c = Exchanges-product
