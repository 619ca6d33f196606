-- The sink of a name is one.
use Rattle.std.proofs.Common.{sym, ◌∙◌}
use Rattle.phase_stream.proofs.Asking.{named_is}
use Rattle.phase_stream.proofs.sink.asked_sink.Goals as goal

pub sink_number-requires-clause-there : goal.sink_number-requires-clause-there
sink_number-requires-clause-there c =
    (named_is c.args.job.now c.in-Some.name.now c.in_ok-task-in-Some.task
    (sym c.find_sink.ensures ∙ c.in_ok-task-in-Some.was)).0

pub sink_number-requires-clause-sink : goal.sink_number-requires-clause-sink
sink_number-requires-clause-sink c =
    (named_is c.args.job.now c.in-Some.name.now c.in_ok-task-in-Some.task
    (sym c.find_sink.ensures ∙ c.in_ok-task-in-Some.was)).1
