-- Where it stands by the registrations before this one.
use Rattle.std.proofs.Common.{◌≡◌, ◌++◌, ℕ, ℤ, List}
use Rattle.std.specs.List.{filter_map, range_with_len}
use Rattle.graph_runs.specs.Moments.{Moment}
use Rattle.stream_lists.specs.Jobs.{with_samples}
use Rattle.stream_job.specs.Stands.{stand_by}
use Rattle.stream_job.specs.Streams.{IsStreamAt}
use Rattle.stream_job.proofs.stream.Stream.put_stands.Given as goal

abbrev pub invariant-loop-k : goal.invariant-loop-k
invariant-loop-k l =
    (s : List (List ℤ)) (m : Moment) (given : ℕ → List ℤ) → IsStreamAt l.self s m given
    → l.stands.items ≡ l.fn.stands.items
    ++ filter_map (stand_by (with_samples s l.self.job) m l.t l.end) (range_with_len 0 l.k)
