-- The lines of the sinks after a turn that writes none of them.
use Rattle.std.proofs.Common.{◌≡◌, ℕ, ℤ, List, [], None, length, map, sym, ap, subst, ◌∙◌}
use Rattle.std.specs.List.{All}
use Rattle.std.proofs.lemmas.List.{length-map}
use Rattle.graph_base.specs.TaskLines.{IsGraph}
use Rattle.stream_eval.specs.Results.{sink_values}
use Rattle.stream_eval.specs.declared.whole.Lines.{Lines}
use Rattle.stream_lists.specs.Jobs.{Job}
use Rattle.stream_lists.specs.Lists.{sinks_of}
use Rattle.graph_runs.specs.Beginnings.{opening}
use Rattle.graph_runs.specs.Moments.{Moment}
use Rattle.graph_runs.specs.TaskEvents.{TaskEvent, after_turn}
use Rattle.graph_runs.specs.TaskPlaces.{child_of}
use Rattle.graph_runs.specs.Answers.{makes, after_answer, turn_up_to}
use Rattle.stream_job.specs.Machines.{HasRoom, IsMachineAt, KeepsLines, kept_behind, none_given}
use Rattle.stream_job.specs.SinkLines.{sink_begins_at, kept_by}
use Rattle.stream_job.specs.declared.machine.Machine.{Machine}
use Rattle.stream_job.proofs.Begins.{opened_begins}
use Rattle.stream_job.proofs.Events.{begins_same}
use Rattle.stream_job.proofs.SinkLines.{map_same}
use Rattle.stream_job.proofs.SinksKeep.{NoSinkWaits, lines_stay, opened_kept}
use Rattle.graph_runs.specs.NextBlocks.{MaySize}

-- lines that are the same keep the same
pub same_lines : (job : Job) (given : ℕ → List ℤ) (m : Moment) (old new : Machine)
    → new.lines ≡ old.lines → KeepsLines job given m old.lines.items
    → KeepsLines job given m new.lines.items
same_lines job given m old new lines kept =
    subst (λ l. KeepsLines job given m l.items) (sym lines) kept

-- and have the same room
pub same_rooms : (old new : Machine) → new.lines ≡ old.lines → (room : ℕ → ℕ)
    → All (HasRoom room) old.lines.items → All (HasRoom room) new.lines.items
same_rooms old new lines room all = subst (λ l. All (HasRoom room) l.items) (sym lines) all

-- where each sink begins after an event that registers no child
pub starts_stay : (job : Job) (m : Moment) (event : TaskEvent) → child_of event ≡ None
    → map (sink_begins_at job m) (sinks_of job)
    ≡ map (sink_begins_at job (after_turn job event m)) (sinks_of job)
starts_stay job m event none =
    map_same (sink_begins_at job m) (sink_begins_at job (after_turn job event m)) (sinks_of job)
    (λ u. begins_same job m event u none)

-- the lines after an event by which no sink waits and no child comes
pub quiet_lines : {steps most : ℕ} (job : Job) (given : ℕ → List ℤ) (m : Moment) (old new : Machine) (t : ℕ)
    (event : TaskEvent) → MaySize job.graph t steps most → IsMachineAt job m old → turn_up_to steps most job m t ≡ makes event
    → child_of event ≡ None → NoSinkWaits job event → new.lines ≡ old.lines
    → KeepsLines job given m old.lines.items
    → KeepsLines job given (after_answer job (turn_up_to steps most job m t) m) new.lines.items
quiet_lines job given m old new t event sized at answer none quiet lines kept =
    subst (λ a. KeepsLines job given (after_answer job a m) new.lines.items) (sym answer) record {
      values = ap (λ l. map (kept_behind given) l.items) lines ∙ kept.values
          ∙ lines_stay job m t event sized at.graph at.reached answer quiet;
      starts = ap (λ l. map (λ line. line.start) l.items) lines ∙ kept.starts
          ∙ starts_stay job m event none;
    }

-- ---- the opening

-- lines that have nothing are as many as the sinks
pub opened_many : (job : Job) (lines : List Lines)
    → map sink_values lines ≡ map (λ t. (t, [])) (sinks_of job)
    → length lines ≡ length (sinks_of job)
opened_many job lines none =
    let f : ℕ → ℕ × List ℤ = λ t. (t, []) in
    sym (length-map lines sink_values) ∙ ap length none ∙ length-map (sinks_of job) f

-- they keep what the sinks have received at the opening
pub opened_keep : (job : Job) (lines : List Lines) → IsGraph job.graph
    → map sink_values lines ≡ map (λ t. (t, [])) (sinks_of job)
    → map (λ line. line.start) lines ≡ map (λ t. None) (sinks_of job)
    → KeepsLines job none_given (opening job) lines
opened_keep job lines is none starts = record {
  values = none
      ∙ map_same (λ t. (t, [])) (λ t. (t, kept_by job (opening job) t)) (sinks_of job)
      (λ t. ap (λ l. (t, l)) (sym (opened_kept job t)));
  starts = starts
      ∙ map_same (λ t. None) (sink_begins_at job (opening job)) (sinks_of job)
      (λ t. sym (opened_begins job t is));
}
