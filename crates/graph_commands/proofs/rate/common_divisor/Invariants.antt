use Rattle.graph_commands.proofs.rate.common_divisor.Given as goal

-- The remainder is less than what it was divided by.
abbrev pub decreases-loop-rest : goal.decreases-loop-rest
decreases-loop-rest l = l.rest
