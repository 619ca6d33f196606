use Rattle.stream_tasks.proofs.opening.founders.dismiss_founders.Given as goal

-- one fewer each time
abbrev pub decreases-loop-founder : goal.decreases-loop-founder
decreases-loop-founder g l = l.founders.rest.len
