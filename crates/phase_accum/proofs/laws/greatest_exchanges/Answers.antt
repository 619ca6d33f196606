use Rattle.phase_accum.proofs.Orders.{Exchanges-greatest}
use Rattle.phase_accum.proofs.laws.greatest_exchanges.Goals as goal

-- the greatest of a list is joined from those of its pieces
pub returns : goal.returns
returns c = Exchanges-greatest
