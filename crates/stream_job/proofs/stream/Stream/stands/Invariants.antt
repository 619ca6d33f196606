-- Where the tasks before this one stand.
use Rattle.std.proofs.Common.{◌≡◌, ℕ, ℤ, List}
use Rattle.std.specs.List.{flat_map, range_with_len}
use Rattle.graph_runs.specs.Moments.{Moment}
use Rattle.stream_lists.specs.Jobs.{with_samples}
use Rattle.stream_job.specs.Stands.{stands_of}
use Rattle.stream_job.specs.Streams.{IsStreamAt}
use Rattle.stream_job.proofs.stream.Stream.stands.Given as goal

abbrev pub invariant-loop-t : goal.invariant-loop-t
invariant-loop-t l =
    (s : List (List ℤ)) (m : Moment) (given : ℕ → List ℤ) → IsStreamAt l.self s m given
    → l.stands.items ≡ flat_map (stands_of (with_samples s l.self.job) m) (range_with_len 0 l.t)
