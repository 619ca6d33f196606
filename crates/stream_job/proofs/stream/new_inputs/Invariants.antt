use Rattle.stream_job.proofs.OpenedInputs.{AreInputsBefore}
use Rattle.stream_job.proofs.stream.new_inputs.Given as goal

-- the sources among the tasks before this one
abbrev pub invariant-loop-t : goal.invariant-loop-t
invariant-loop-t l = AreInputsBefore l.job l.t l.inputs.items
