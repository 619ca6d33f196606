-- The tasks so far rest.
use Rattle.std.proofs.Common.{◌≡◌, ℕ, ℤ, List, ◌<◌, true}
use Rattle.stream_lists.specs.Jobs.{with_samples}
use Rattle.graph_runs.specs.Moments.{Moment}
use Rattle.stream_job.specs.Streams.{IsStreamAt, ended_at, rests}
use Rattle.stream_job.proofs.stream.Stream.all_rest.Given as goal

abbrev pub invariant-loop-t : goal.invariant-loop-t
invariant-loop-t l =
    (s : List (List ℤ)) (m : Moment) (given : ℕ → List ℤ) → IsStreamAt l.self s m given
    → (d : ℕ) → d < l.t → rests (with_samples s l.self.job) (ended_at l.self) m given d ≡ true
