-- Lengths by steps alone, and then by values: what is taken is there.
use Rattle.stream_lists.proofs.ListLengths.{lengths_end, outputs_long, steps_long}
use Rattle.stream_lists.proofs.list_laws.lengths_are_ends.Goals as goal

pub returns-clause-steps : goal.returns-clause-steps
returns-clause-steps c = steps_long

pub returns-clause-outputs : goal.returns-clause-outputs
returns-clause-outputs c = outputs_long

pub returns-clause-lengths : goal.returns-clause-lengths
returns-clause-lengths c = lengths_end
