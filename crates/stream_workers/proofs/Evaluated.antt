-- An evaluation's lines are those of a run whose sinks that join now begin as early as they may.
use Rattle.std.proofs.Common.{◌≡◌, ℕ, ◌<◌, ◌≤◌, true, false, ◌&&◌, ltb, List, [], length, map, Some, None, refl, sym, ap, subst, ◌∙◌}
use Rattle.std.specs.Prelude.{Ok, if◌then◌else◌, slice_index_or}
use Rattle.std.specs.List.{All}
use Rattle.std.proofs.lemmas.Bool.{ltb-true, ltb-false}
use Rattle.std.proofs.lemmas.List.{get_or_past}
use Rattle.graph_base.specs.Graphs.{Task, no_task, task_at}
use Rattle.stream_eval.specs.Results.{sink_values}
use Rattle.stream_eval.specs.declared.whole.Lines.{Lines}
use Rattle.stream_lists.specs.Jobs.{Job, with_starts}
use Rattle.stream_lists.specs.Lists.{lines_of, start_in}
use Rattle.stream_lists.specs.Ranges.{Fits, answer_of}
use Rattle.stream_lists.specs.Spans.{span_in}
use Rattle.stream_tasks.specs.RunAnswers.{AreLinesOf}
use Rattle.stream_workers.proofs.StartsInTime.{first_length}

-- only a task of the graph has a start
has_line : (job : Job) (t start : ℕ) → start_in job t ≡ Some start → t < length job.graph.tasks
has_line job t start is =
    elim (ltb t (length job.graph.tasks)) as
    (λ b. (ltb t (length job.graph.tasks) ≡ b) → t < length job.graph.tasks) [
      | true ↦ λ e. ltb-true t (length job.graph.tasks) e
      | false ↦ λ e.
          let past = ltb-false t (length job.graph.tasks) e in
          let stays : (task_at job.graph t).joins_now ≡ false =
          ap (λ (task : Task). task.joins_now) (get_or_past job.graph.tasks t no_task past) in
          let span = span_in job t in
          let none : (if false && span.live then Some span.offset else None) ≡ Some start =
          subst (λ b. (if b && span.live then Some span.offset else None) ≡ Some start) stays is in
          absurd (cc)
    ] refl

-- the lines of an evaluation of a job are what a run of it may tell, with no starts
pub evaluated : (job : Job) (lines : List Lines) → job.starts ≡ []
    → ((t start : ℕ) → t < length job.graph.tasks → start_in job t ≡ Some start
    → start ≤ first_length job t)
    → map sink_values lines ≡ lines_of job
    → All (λ line. line.start ≡ start_in job line.task) lines → Fits job → AreLinesOf job lines
evaluated job lines least in_time values told fits = record {
  starts = [];
  answer = subst (λ j. answer_of j ≡ Ok (map sink_values lines)) same answer;
  told = subst (λ j. All (λ line. line.start ≡ start_in j line.task) lines) same told;
  in_time = λ k d low start at.
      let t = (slice_index_or lines k d).task in
      let is : start_in job t ≡ Some start = sym (told k d low) ∙ at in
      in_time t start (has_line job t start is) is;
}
  where
    same : job ≡ with_starts [] job
    same = ap (λ s. with_starts s job) least

    answer : answer_of job ≡ Ok (map sink_values lines)
    answer = rw fits (ap (λ l. Ok l) (sym values))
