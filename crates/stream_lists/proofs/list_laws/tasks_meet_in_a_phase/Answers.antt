use Rattle.stream_lists.proofs.EachPhase.{meet_is}
use Rattle.stream_lists.proofs.list_laws.tasks_meet_in_a_phase.Goals as goal

pub returns : goal.returns
returns c = meet_is
