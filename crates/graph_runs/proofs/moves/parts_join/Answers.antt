-- Each task's part stays under others' events.
use Rattle.graph_runs.proofs.Joins.{joined_ran}
use Rattle.graph_runs.proofs.moves.parts_join.Goals as goal

pub returns : goal.returns
returns c = joined_ran
