-- By what each call leaves.
use Rattle.graph_runs.proofs.FollowsPlace.{seen_follows, put_follows, sampled_follows, first_wait_follows, exchanged_follows, left_follows}
use Rattle.graph_runs.proofs.places.follow.Goals as goal

pub returns-clause-seen : goal.returns-clause-seen
returns-clause-seen c = λ job m after t p most at now stands seen.
    seen_follows job m after t p at now stands seen

pub returns-clause-put : goal.returns-clause-put
returns-clause-put c = put_follows

pub returns-clause-samples : goal.returns-clause-samples
returns-clause-samples c =
    λ job m after t p most vs at now is there part stands left owed source s.
    sampled_follows job m after t p vs at now is there part stands left owed source s

pub returns-clause-first_wait : goal.returns-clause-first_wait
returns-clause-first_wait c = first_wait_follows

pub returns-clause-exchange : goal.returns-clause-exchange
returns-clause-exchange c = exchanged_follows

pub returns-clause-left : goal.returns-clause-left
returns-clause-left c = λ job m after t p n most at before is there stands room here numbered s.
    left_follows job m after t p n at before is there stands room here numbered s
