-- What a task puts on a phaser looks at lists of the phasers above it alone.
use Rattle.stream_lists.proofs.ListsAbove.{lists_above, numbers_all}
use Rattle.stream_lists.proofs.list_laws.lists_above_decide.Goals as goal

pub returns-clause-lists : goal.returns-clause-lists
returns-clause-lists c = lists_above

pub returns-clause-numbers : goal.returns-clause-numbers
returns-clause-numbers c = numbers_all
