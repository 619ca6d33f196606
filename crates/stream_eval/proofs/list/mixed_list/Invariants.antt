use Rattle.stream_lists.specs.Lists.{mixed}
use Rattle.stream_eval.proofs.Made.{MadeInRange}
use Rattle.stream_eval.proofs.list.mixed_list.Given as goal

-- the values at the entries before this one
abbrev pub invariant-loop-step : goal.invariant-loop-step
invariant-loop-step l = MadeInRange (mixed l.mul l.xs l.es) l.list.items l.step
