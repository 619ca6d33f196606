-- What a task does next, of its call at one of its ends.
use Rattle.std.specs.Prelude.{◌==◌, ℕ, Option, Some, None, if◌then◌else◌}
use Rattle.stream_lists.specs.declared.stand.End.{End}
use Rattle.stream_lists.specs.declared.stand.End.TheVariants as end
use Rattle.stream_lists.specs.declared.stand.NextCall.{NextCall}
use Rattle.stream_lists.specs.declared.stand.NextCall.TheVariants as call

-- the call that is made at an end, where it is on a registration of this input and this output
abbrev pub call_on : End → Option ℕ → Option ℕ → Option NextCall
call_on (end.Input k) (Some i) output = if i == k then Some call.Wait else None
call_on (end.Output j) input (Some o) = if o == j then Some call.Signal else None
call_on end input output = None
