-- Each span is made from those of the tasks above it, among which is its parent's.
use Rattle.stream_lists.proofs.SpansAbove.{spans_above, spans_all}
use Rattle.stream_lists.proofs.list_laws.spans_above_decide.Goals as goal

pub returns-clause-above : goal.returns-clause-above
returns-clause-above c = spans_above

pub returns-clause-all : goal.returns-clause-all
returns-clause-all c = spans_all
