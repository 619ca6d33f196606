-- A task that misses a registration would have a live parent.
use Rattle.graph_runs.proofs.AllGone.{gone_over}
use Rattle.graph_runs.proofs.outcomes.all_gone.Goals as goal

pub returns-clause-over : goal.returns-clause-over
returns-clause-over c = gone_over

pub returns-clause-answer : goal.returns-clause-answer
returns-clause-answer c = λ job m ready reached dead none.
    c.answers.ensures job m ready reached.ran (gone_over job m ready.graph reached dead)
    (c.met_none.ensures job m none)
