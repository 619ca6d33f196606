-- The moment that is put together is over, and none met a value that is too big.
use Rattle.graph_runs.proofs.AtEnd.{answer_at_end}
use Rattle.graph_runs.proofs.ends.runs_end.Goals as goal

pub returns : goal.returns
returns c = answer_at_end
