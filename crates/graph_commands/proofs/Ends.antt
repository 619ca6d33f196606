-- How a command ends, from its failure and from what was told of that.
use Rattle.std.proofs.Common.{◌≡◌, ◌⊎◌, inl, inr, ℕ, List, Ok, Err, refl, sym, subst, ◌∙◌}
use Rattle.std.specs.Prelude.{IfErr, OnOk, Result}
use Rattle.std.specs.declared.option.Option.{Option}
use Rattle.graph_commands.proofs.Places.{place-first_too_big}
use Rattle.graph_commands.specs.Ends.{EndsBy, IsTold}
use Rattle.graph_commands.specs.Failures.{FailsBy, HasPlace, IsUnanswered, IsUndrawn, IsUnread, failure_status}
use Rattle.graph_commands.specs.FileJobs.{Known}
use Rattle.graph_commands.specs.GraphRuns.{job_status}
use Rattle.graph_commands.specs.declared.failure.Failure.{Failure}
use Rattle.graph_commands.specs.declared.failure.Failure.TheVariants as failure
use Rattle.graph_commands.specs.declared.fault.JobFault.{JobFault}
use Rattle.graph_commands.specs.declared.fault.JobFault.TheVariants as fault
use Rattle.watched_io.specs.States.{WriterState}
use Rattle.watched_io.specs.declared.explain.Explain.{Explain}
use Rattle.watched_io.specs.declared.status.Status.{Status}
use Rattle.watched_io.specs.declared.status.Status.TheVariants.{Done, Failed, GraphRefused, TooBig}
use Rattle.watched_io.specs.declared.watched.Watched.{Watched}

-- ---- statuses

job-not-done : (found : JobFault) → job_status found ≡ Done → ⊥
job-not-done (fault.Graph found) e = cc e
job-not-done (fault.BadSample name number told) e = cc e
job-not-done fault.ReadFault e = cc e
job-not-done fault.OutOfMemory e = cc e

-- no failure is done
pub failure-not-done : (found : Failure) → failure_status found ≡ Done → ⊥
failure-not-done (failure.Graph found text) e = job-not-done found e
failure-not-done (failure.NoSink job name) e = cc e
failure-not-done (failure.TooBig job place phase) e = cc e
failure-not-done (failure.Stalled further) e = cc e
failure-not-done (failure.Io found) e = cc e

job-refused-or-failed : (found : JobFault) → (job_status found ≡ GraphRefused) ⊎ (job_status found ≡ Failed)
job-refused-or-failed (fault.Graph found) = inl refl
job-refused-or-failed (fault.BadSample name number told) = inl refl
job-refused-or-failed fault.ReadFault = inr refl
job-refused-or-failed fault.OutOfMemory = inr refl

pub unread-status : (known : Known) (name : List ℕ) (found : Failure) → IsUnread known name found
    → (failure_status found ≡ GraphRefused) ⊎ (failure_status found ≡ Failed)
unread-status known name (failure.Graph found text) unread = job-refused-or-failed found
unread-status known name (failure.NoSink job wanted) unread = absurd unread
unread-status known name (failure.TooBig job place phase) unread = absurd unread
unread-status known name (failure.Stalled further) unread = absurd unread
unread-status known name (failure.Io found) unread = absurd unread

pub undrawn-status : (known : Known) (name : List ℕ) (found : Failure) → IsUndrawn known name found
    → (failure_status found ≡ GraphRefused) ⊎ (failure_status found ≡ Failed)
undrawn-status known name (failure.Graph found text) undrawn = job-refused-or-failed found
undrawn-status known name (failure.Io found) undrawn = inr refl
undrawn-status known name (failure.NoSink job wanted) undrawn = absurd undrawn
undrawn-status known name (failure.TooBig job place phase) undrawn = absurd undrawn
undrawn-status known name (failure.Stalled further) undrawn = absurd undrawn

-- what never stalls
pub unanswered-status : (known : Known) (name : List ℕ) (asked : Option (List ℕ)) (found : Failure)
    → IsUnanswered ⊥ known name asked found
    → (failure_status found ≡ GraphRefused) ⊎ ((failure_status found ≡ TooBig) ⊎ (failure_status found ≡ Failed))
unanswered-status known name asked (failure.Graph found text) unanswered = elim (job-refused-or-failed found) [
  | inl refused ↦ inl refused
  | inr failed ↦ inr (inr failed)
]
unanswered-status known name asked (failure.NoSink job wanted) unanswered = inl refl
unanswered-status known name asked (failure.TooBig job place phase) unanswered = inr (inl refl)
unanswered-status known name asked (failure.Stalled further) unanswered = absurd unanswered.1
unanswered-status known name asked (failure.Io found) unanswered = inr (inr refl)

-- ---- places

pub unread-place : (known : Known) (name : List ℕ) (found : Failure) → IsUnread known name found → HasPlace found
unread-place known name (failure.Graph found text) unread = tt
unread-place known name (failure.NoSink job wanted) unread = absurd unread
unread-place known name (failure.TooBig job place phase) unread = absurd unread
unread-place known name (failure.Stalled further) unread = absurd unread
unread-place known name (failure.Io found) unread = absurd unread

pub undrawn-place : (known : Known) (name : List ℕ) (found : Failure) → IsUndrawn known name found → HasPlace found
undrawn-place known name (failure.Graph found text) undrawn = tt
undrawn-place known name (failure.Io found) undrawn = tt
undrawn-place known name (failure.NoSink job wanted) undrawn = absurd undrawn
undrawn-place known name (failure.TooBig job place phase) undrawn = absurd undrawn
undrawn-place known name (failure.Stalled further) undrawn = absurd undrawn

pub unanswered-place : (Stalls : Type 0) (known : Known) (name : List ℕ) (asked : Option (List ℕ))
    (found : Failure) → IsUnanswered Stalls known name asked found → HasPlace found
unanswered-place Stalls known name asked (failure.Graph found text) unanswered = tt
unanswered-place Stalls known name asked (failure.NoSink job wanted) unanswered = tt
unanswered-place Stalls known name asked (failure.TooBig job place phase) unanswered =
    place-first_too_big job (place, phase) unanswered.first
unanswered-place Stalls known name asked (failure.Stalled further) unanswered = tt
unanswered-place Stalls known name asked (failure.Io found) unanswered = tt

-- the place of a failure of a cause whose failures have theirs
pub fails-place : {W : Type 0} (Cause : Failure → Type 0) (Written : Type 0) (contents : W → Option (List ℕ))
    (old new : Watched W) (found : Failure) → ((found : Failure) → Cause found → HasPlace found)
    → FailsBy Cause Written contents old new found → HasPlace found
fails-place Cause Written contents old new found place (inl cause) = place found cause.0
fails-place Cause Written contents old new found place (inr unwritten) =
    subst (λ (found : Failure). HasPlace found) (sym unwritten.failure_is) tt

-- the status of such a failure
pub fails-status : {W : Type 0} (Cause : Failure → Type 0) (Written : Type 0) (contents : W → Option (List ℕ))
    (old new : Watched W) (found : Failure) (Ends : Status → Type 0)
    → ((found : Failure) → Cause found → Ends (failure_status found)) → Ends Failed
    → FailsBy Cause Written contents old new found → Ends (failure_status found)
fails-status Cause Written contents old new found Ends by failed (inl cause) = by found cause.0
fails-status Cause Written contents old new found Ends by failed (inr unwritten) =
    subst (λ (found : Failure). Ends (failure_status found)) (sym unwritten.failure_is) failed

-- ---- ends

-- a command ended, and its failure was reported
pub ends-by : {A : Type 0} (Quiet : Type 0) (explain : Explain) (Does : Type 0)
    (Fails : Failure → Type 0) (done : Result A Failure) (status : Status) (before after : WriterState)
    → OnOk done Does → IfErr done Fails → OnOk done ((status ≡ Done) × Quiet)
    → IfErr done (λ found. status ≡ failure_status found)
    → IfErr done (λ found. IsTold explain found before after)
    → EndsBy explain Does Fails status before after
ends-by Quiet explain Does Fails (Ok unit) status before after does fails quiet is told = record {
  done = λ _. does;
  stops = λ other. absurd (other quiet.0);
}
ends-by Quiet explain Does Fails (Err found) status before after does fails quiet is told = record {
  done = λ done. absurd (failure-not-done found (sym is ∙ done));
  stops = λ _. record { found = found; fails = fails; status_is = is; told = told };
}

-- and so does its status
pub ends-status : {A : Type 0} (Quiet : Type 0) (Fails : Failure → Type 0) (Ends : Status → Type 0)
    (done : Result A Failure) (status : Status) → IfErr done Fails → OnOk done ((status ≡ Done) × Quiet)
    → IfErr done (λ found. status ≡ failure_status found) → Ends Done
    → ((found : Failure) → Fails found → Ends (failure_status found)) → Ends status
ends-status Quiet Fails Ends (Ok unit) status fails quiet is done by = subst Ends (sym quiet.0) done
ends-status Quiet Fails Ends (Err found) status fails quiet is done by = subst Ends (sym is) (by found fails)
