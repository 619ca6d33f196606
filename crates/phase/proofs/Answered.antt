-- What the answer of a run says of the job.
use Rattle.std.proofs.Common.{◌≡◌, ◌≤◌, ℕ, ℤ, List, Ok, Some, map, get_or, subst, ◌∙◌, rules}
use Rattle.std.proofs.lemmas.List.Elements.{All-map}
use Rattle.std.specs.List.{All}
use Rattle.phase.specs.Runs.{BeginInTime}
use Rattle.graph_base.specs.Graphs.{task_at}
use Rattle.stream_lists.specs.Jobs.{Job, with_starts}
use Rattle.stream_lists.specs.Lists.{lines_of, start_in}
use Rattle.stream_lists.specs.Ranges.{answer_of}
use Rattle.stream_lists.specs.Spans.{lengths_of}
use Rattle.stream_eval.specs.Results.{sink_values}
use Rattle.stream_eval.specs.declared.whole.Lines.{Lines}
use Rattle.stream_lists.proofs.Basics.{answer_fits}

-- and it is the lines of its sinks
pub answer-lines : (job : Job) (lines : List (ℕ × List ℤ)) → answer_of job ≡ Ok lines → lines ≡ lines_of job
answer-lines job lines is =
    let fits = answer_fits job lines is in
    let both : Ok (lines_of job) ≡ Ok lines = rw fits at is in
    search rules

-- the starts that a run tells are in time
pub told-in_time : (job : Job) (starts : List ℕ) (lines : List Lines)
    → map sink_values lines ≡ lines_of (with_starts starts job)
    → All (λ line. line.start ≡ start_in (with_starts starts job) line.task) lines
    → All (λ line. (start : ℕ) → line.start ≡ Some start
    → start ≤ get_or (lengths_of job) (get_or (task_at job.graph line.task).inputs 0 0) 0) lines
    → BeginInTime starts job
told-in_time job starts lines values told in_time =
    subst (All In) values (All-map In sink_values lines (λ n d less start is. in_time n d less start (told n d less ∙ is)))
  where
    In : ℕ × List ℤ → Type 0
    In line = (start : ℕ) → start_in (with_starts starts job) line.0 ≡ Some start
        → start ≤ get_or (lengths_of job) (get_or (task_at job.graph line.0).inputs 0 0) 0
