-- By what the place owes.
use Rattle.graph_runs.proofs.TellsNext.{next_values_are, next_samples_at, next_waits_at, next_exchange_is}
use Rattle.graph_runs.proofs.places.tells_next.Goals as goal

pub returns-clause-values : goal.returns-clause-values
returns-clause-values c = next_values_are

pub returns-clause-samples : goal.returns-clause-samples
returns-clause-samples c =
    λ job m t most vs at is there part stands left owed source samples may children.
    next_samples_at job m t vs at is there part stands left owed source samples may children

pub returns-clause-wait : goal.returns-clause-wait
returns-clause-wait c = next_waits_at

pub returns-clause-exchange : goal.returns-clause-exchange
returns-clause-exchange c = λ job m t most x at is there part stands left owed.
    next_exchange_is job m t x at is there part stands left owed
