-- What a task puts on a phaser looks at lists of the phasers above it alone.
use Rattle.stream_lists.proofs.ListsAbove.{members_above, outputs_above}
use Rattle.stream_lists.proofs.list_laws.members_above_decide.Goals as goal

pub returns-clause-members : goal.returns-clause-members
returns-clause-members c = members_above

pub returns-clause-output : goal.returns-clause-output
returns-clause-output c = outputs_above
