-- The values before this place are in range.
use Rattle.std.proofs.Common.{◌≡◌, drop}
use Rattle.std.specs.List.{position_from}
use Rattle.stream_job.specs.Stepping.{is_value_out}
use Rattle.stream_job.proofs.task_state.first_out.Given as goal

abbrev pub invariant-loop-place : goal.invariant-loop-place
invariant-loop-place l =
    position_from is_value_out 0 l.made ≡ position_from is_value_out l.place (drop l.place l.made)
