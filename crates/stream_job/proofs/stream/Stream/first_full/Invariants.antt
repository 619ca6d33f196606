-- None of the tasks so far is full.
use Rattle.std.proofs.Common.{◌≡◌, ℕ, ℤ, List, ◌<◌, false}
use Rattle.stream_lists.specs.Jobs.{with_samples}
use Rattle.graph_runs.specs.Moments.{Moment}
use Rattle.stream_job.specs.Streams.{IsStreamAt, is_full}
use Rattle.stream_job.proofs.stream.Stream.first_full.Given as goal

abbrev pub invariant-loop-t : goal.invariant-loop-t
invariant-loop-t l =
    (s : List (List ℤ)) (m : Moment) (given : ℕ → List ℤ) → IsStreamAt l.self s m given
    → (d : ℕ) → d < l.t → is_full (with_samples s l.self.job) m given d ≡ false
