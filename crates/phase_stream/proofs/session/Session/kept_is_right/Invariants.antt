use Rattle.std.proofs.Common.{◌≡◌, ◌<◌, ℕ, ℤ, List, Some}
use mathlib.Core.List.{IsPrefix}
use Rattle.stream_job.specs.SinkLines.{kept_by}
use Rattle.stream_job.specs.Streams.{IsStreamAt}
use Rattle.graph_runs.specs.Moments.{Moment}
use Rattle.phase_stream.specs.Sessions.{IsKeptRight, task_for}
use Rattle.phase_stream.proofs.session.Session.kept_is_right.Given as goal

-- the sinks that go to the writers before this one are right
abbrev pub invariant-loop-number : goal.invariant-loop-number
invariant-loop-number g l = record {
  given : (k t : ℕ) → k < l.number → task_for l.self.targets.items k ≡ Some t
      → (s : List (List ℤ)) (m : Moment) (given : ℕ → List ℤ) → IsStreamAt l.self.stream s m given
      → IsPrefix (given t) (kept_by l.self.stream.job m t);
  right : (k t : ℕ) → k < l.number → task_for l.self.targets.items k ≡ Some t
      → IsKeptRight l.self.stream t;
}
