use Rattle.std.proofs.Common.{◌≡◌, ◌<◌, ℕ, ℤ, List, Some, true}
use Rattle.stream_job.specs.Gone.{has_gone}
use Rattle.stream_job.specs.Streams.{IsStreamAt}
use Rattle.graph_runs.specs.Moments.{Moment}
use Rattle.phase_stream.specs.Sessions.{IsKeptWhole, task_for}
use Rattle.phase_stream.proofs.session.Session.have_left.Given as goal

-- the sinks that go to the writers before this one have left
abbrev pub invariant-loop-number : goal.invariant-loop-number
invariant-loop-number g l = record {
  gone : (k t : ℕ) → k < l.number → task_for l.self.targets.items k ≡ Some t
      → (s : List (List ℤ)) (m : Moment) (given : ℕ → List ℤ) → IsStreamAt l.self.stream s m given
      → has_gone l.self.stream.job m t ≡ true;
  whole : (k t : ℕ) → k < l.number → task_for l.self.targets.items k ≡ Some t
      → IsKeptWhole l.self.stream t;
}
