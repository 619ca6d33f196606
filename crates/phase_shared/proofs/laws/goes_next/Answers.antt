-- The signal adds what it sends, and then the wait what it gets.
use Rattle.phase_shared.proofs.PartSteps.{next_adds, next_ended, refused_next}
use Rattle.phase_shared.proofs.laws.goes_next.Goals as goal

pub returns-clause-ok : goal.returns-clause-ok
returns-clause-ok g c limits single old new = next_adds g.A.Accumulate.operation limits single old new

pub returns-clause-refused : goal.returns-clause-refused
returns-clause-refused g c limits single old new = refused_next g.A.Accumulate.operation limits single old new

pub returns-clause-ended : goal.returns-clause-ended
returns-clause-ended g c limits single old new next n ended = (next_ended g.A.Accumulate.operation limits single old new next n ended).0

pub returns-clause-got_all : goal.returns-clause-got_all
returns-clause-got_all g c limits single old new next n ended = (next_ended g.A.Accumulate.operation limits single old new next n ended).1
