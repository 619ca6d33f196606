use Rattle.thread_tests.proofs.tries.+are_registered.Given as goal

-- one fewer each time
abbrev pub decreases-are_registered : goal.decreases-are_registered
decreases-are_registered g l = l.count
