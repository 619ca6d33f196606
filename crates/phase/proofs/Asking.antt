-- Which statuses may come of a run.
use Rattle.std.proofs.Common.{◌≡◌, ◌≢◌, ◌⊎◌, inl, inr, ℕ, List, refl}
use Rattle.phase.specs.Ends.{MayEndAsRun}
use Rattle.phase_words.proofs.Answering.{stalled-taken}
use Rattle.phase_words.specs.Answers.{MayEnd}
use Rattle.phase_words.specs.RunLine.{AreRunTaken, run_kinds_of}
use Rattle.graph_commands.specs.Failures.{failure_status}
use Rattle.graph_commands.specs.GraphRuns.{job_status}
use Rattle.graph_commands.specs.declared.failure.Failure.{Failure}
use Rattle.graph_commands.specs.declared.failure.Failure.TheVariants as failure
use Rattle.graph_commands.specs.declared.fault.JobFault.{JobFault}
use Rattle.graph_commands.specs.declared.fault.JobFault.TheVariants as fault
use Rattle.watched_io.specs.declared.status.Status.{Status}
use Rattle.watched_io.specs.declared.status.Status.TheVariants.{Refused, Stalled}

job-ends : (found : JobFault) → MayEndAsRun (job_status found)
job-ends (fault.Graph found) = inr (inl refl)
job-ends (fault.BadSample name number told) = inr (inl refl)
job-ends fault.ReadFault = inr (inr (inr (inr refl)))
job-ends fault.OutOfMemory = inr (inr (inr (inr refl)))

-- the status of any failure
pub failure-ends : (found : Failure) → MayEndAsRun (failure_status found)
failure-ends (failure.Graph found text) = job-ends found
failure-ends (failure.NoSink job name) = inr (inl refl)
failure-ends (failure.TooBig job place phase) = inr (inr (inl refl))
failure-ends (failure.Stalled further) = inr (inr (inr (inl refl)))
failure-ends (failure.Io found) = inr (inr (inr (inr refl)))

run-not-refused : (status : Status) → status ≡ Refused → MayEndAsRun status → ⊥
run-not-refused status is (inl e) = cc (is, e)
run-not-refused status is (inr (inl e)) = cc (is, e)
run-not-refused status is (inr (inr (inl e))) = cc (is, e)
run-not-refused status is (inr (inr (inr (inl e)))) = cc (is, e)
run-not-refused status is (inr (inr (inr (inr e)))) = cc (is, e)

pub taken-not-refused : (words : List (List ℕ)) (status : Status) → MayEnd (run_kinds_of words) MayEndAsRun status
    → AreRunTaken words → status ≢ Refused
taken-not-refused words status ends taken = λ is. run-not-refused status is (ends.taken taken)

pub stalled-are-taken : (words : List (List ℕ)) (status : Status) → MayEnd (run_kinds_of words) MayEndAsRun status
    → status ≡ Stalled → AreRunTaken words
stalled-are-taken words status ends stalled = stalled-taken (run_kinds_of words) MayEndAsRun status ends stalled
