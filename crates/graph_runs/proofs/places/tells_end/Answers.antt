-- By what the place owes and has left.
use Rattle.graph_runs.proofs.TellsNext.{ended_cut, ended_no_sample, ended_no_input, staying_at, none_due_at}
use Rattle.graph_runs.proofs.places.tells_end.Goals as goal

pub returns-clause-cut : goal.returns-clause-cut
returns-clause-cut c = λ job m t most at is there part stands owed cut.
    ended_cut job m t at there part stands owed cut

pub returns-clause-no_sample : goal.returns-clause-no_sample
returns-clause-no_sample c = λ job m t most at is there part stands owed source used.
    ended_no_sample job m t at there part stands owed source used

pub returns-clause-no_input : goal.returns-clause-no_input
returns-clause-no_input c = λ job m t most at is there part stands owed never out.
    ended_no_input job m t at there part stands owed never out

pub returns-clause-staying : goal.returns-clause-staying
returns-clause-staying c = λ job m t most at is there part stands left.
    staying_at job m t at is there part.ran stands left

pub returns-clause-none_due : goal.returns-clause-none_due
returns-clause-none_due c = λ job m t p most at is there part stands children.
    none_due_at job m t p at is part stands children
