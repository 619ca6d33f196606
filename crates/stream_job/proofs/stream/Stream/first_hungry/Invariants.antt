-- None of the tasks so far is hungry.
use Rattle.std.proofs.Common.{◌≡◌, ℕ, ℤ, List, ◌<◌, false}
use Rattle.stream_lists.specs.Jobs.{with_samples}
use Rattle.graph_runs.specs.Moments.{Moment}
use Rattle.stream_job.specs.Streams.{IsStreamAt, ended_at, is_hungry}
use Rattle.stream_job.proofs.stream.Stream.first_hungry.Given as goal

abbrev pub invariant-loop-t : goal.invariant-loop-t
invariant-loop-t l =
    (s : List (List ℤ)) (m : Moment) (given : ℕ → List ℤ) → IsStreamAt l.self s m given
    → (d : ℕ) → d < l.t → is_hungry (with_samples s l.self.job) (ended_at l.self) m d ≡ false
