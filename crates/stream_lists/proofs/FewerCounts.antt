-- Who meets nobody with so many samples of each source meets nobody with fewer.
use Rattle.std.proofs.Common.{◌≡◌, ◌<◌, ◌≤◌, ℕ, List, [], length, None, sym, subst, ◌∙◌}
use Rattle.graph_base.specs.Graphs.{task_at}
use Rattle.graph_base.specs.TaskLines.{IsGraph}
use Rattle.graph_base.specs.declared.line.Kind.TheVariants.{Source}
use Rattle.stream_lists.specs.Jobs.{Job, samples_at, with_starts, zeros, counted, count_at}
use Rattle.stream_lists.specs.Meetings.{meeting_line}
use Rattle.stream_lists.proofs.AsMany.{length-counted}
use Rattle.stream_lists.proofs.MoreSamples.{meetings_fewer}
use Rattle.stream_lists.proofs.Starts.{meetings_stay}

-- the job that has the numbers alone has no start, and starts move no meeting
pub none_with_fewer : (job : Job) (counts : List ℕ) → IsGraph job.graph
    → ((t : ℕ) → t < length job.graph.tasks → (task_at job.graph t).kind ≡ Source
    → length (samples_at job t) ≤ count_at job.graph counts t)
    → meeting_line (counted job.graph counts) ≡ None → meeting_line job ≡ None
none_with_fewer job counts is few none =
    sym (meetings_stay job [] is)
    ∙ meetings_fewer (with_starts [] job) (zeros counts) is
    (λ t there kind. subst (λ n. length (samples_at job t) ≤ n)
    (sym (length-counted job.graph counts t)) (few t there kind)) none
