-- What a run has stays after a turn, whatever its sizes.
use Rattle.std.proofs.Common.{◌≡◌, ℕ, refl, ap, ◌∙◌}
use Rattle.graph_base.specs.TaskLines.{IsGraph}
use Rattle.stream_lists.specs.Jobs.{Job}
use Rattle.graph_runs.specs.Moments.{Moment, HasRun}
use Rattle.graph_runs.specs.TaskEvents.{TaskEvent, IsNext, sample, signal, first_wait, exchange_wait, leave, child, child_now, after_turn}
use Rattle.graph_runs.specs.NextBlocks.{MaySize}
use Rattle.graph_runs.specs.Nexts.{first_missing}
use Rattle.graph_runs.specs.Answers.{Answer, makes, is_blocked, is_gone, has_made, is_refused, turn_up_to, after_answer}
use Rattle.graph_runs.specs.Reached.{IsReachable}
use Rattle.graph_runs.proofs.InBlocks.{next_samples_keep, next_signals_keep, first_waits_keep}
use Rattle.graph_runs.proofs.JoinsNow.{next_child_now_keeps}
use Rattle.graph_runs.proofs.Turned.{exchange_wait_keeps, next_leave_keeps, next_child_keeps}
use Rattle.graph_runs.proofs.Turning.{turn_makes_next}
use Rattle.graph_runs.proofs.Whose.{made_by}
use Rattle.graph_runs.proofs.BlockReach.{reached_after}

-- a next event keeps it
pub event_keeps : (job : Job) (m : Moment) (event : TaskEvent) → IsGraph job.graph
    → IsNext job m event → HasRun job m → HasRun job (after_turn job event m)
event_keeps job m (sample t j p n vs) is next ran =
    next_samples_keep job m t j p n vs is next.0.task next.0.phaser next.1 ran
event_keeps job m (signal t j p n vs) is next ran =
    next_signals_keep job m t j p n vs is next.0.task next.0.phaser next.1 ran
event_keeps job m (first_wait t k p n outcomes) is next ran =
    first_waits_keep job m t k p n outcomes is next.0.task next.0.phaser next.1 ran
event_keeps job m (exchange_wait t p n outcome) is next ran =
    exchange_wait_keeps job m t p n outcome is next.0.task next.0.phaser next.1 ran
event_keeps job m (leave t p n) is next ran =
    next_leave_keeps job m t p n is next.0.task next.0.phaser next.1 ran
event_keeps job m (child t p n d a mode) is next ran =
    next_child_keeps job m t p n d a mode next.1.0 is next.0.task next.1.1 ran
event_keeps job m (child_now t p n d a) is next ran =
    next_child_now_keeps job m t p n d a next.1.0 is next.0.task next.1.1 ran

-- so a turn leads from a reached moment to one that is reached
pub turn_reached : (steps most : ℕ) (job : Job) (m : Moment) (t : ℕ) → MaySize job.graph t steps most
    → IsGraph job.graph → IsReachable job m
    → IsReachable job (after_answer job (turn_up_to steps most job m t) m)
turn_reached steps most job m t sized is reached = by (turn_up_to steps most job m t) refl
  where
    by : (answer : Answer) → turn_up_to steps most job m t ≡ answer
        → IsReachable job (after_answer job answer m)
    by (makes event) e =
        let made = made_by steps most job m t event e in
        let next = turn_makes_next steps most job m t event sized is reached.ran
        (λ c due. reached.to_come) e in
        reached_after job m event is reached next
        (ap (λ u. first_missing job m u) made.1.own ∙ made.0.all) made.1.missing
        (event_keeps job m event is next reached.ran)
    by is_blocked e = reached
    by is_gone e = reached
    by (has_made at) e = reached
    by is_refused e = reached
