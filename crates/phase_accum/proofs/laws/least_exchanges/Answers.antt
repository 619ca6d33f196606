use Rattle.phase_accum.proofs.Orders.{Exchanges-least}
use Rattle.phase_accum.proofs.laws.least_exchanges.Goals as goal

-- the least of a list is joined from those of its pieces
pub returns : goal.returns
returns c = Exchanges-least
