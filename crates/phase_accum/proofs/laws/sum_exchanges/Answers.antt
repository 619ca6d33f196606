use Rattle.phase_accum.proofs.Orders.{Exchanges-sum}
use Rattle.phase_accum.proofs.laws.sum_exchanges.Goals as goal

-- the sum of a list is joined from those of its pieces
pub returns : goal.returns
returns c = Exchanges-sum
