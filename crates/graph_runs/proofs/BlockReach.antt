-- An event of a task leads to a moment that is reachable.
use Rattle.std.proofs.Common.{◌≡◌, ℕ, ◌<◌, List, ℤ, None, length, map}
use Rattle.phase_accum.specs.declared.outcome.Outcome.{Outcome}
use Rattle.phase_history.specs.declared.event.Event.TheVariants.{Signalled, Waited, Dropped}
use Rattle.graph_base.specs.Graphs.{phaser_at}
use Rattle.graph_base.specs.TaskLines.{IsGraph}
use Rattle.stream_lists.specs.Jobs.{Job}
use Rattle.graph_runs.specs.Moments.{Moment, HasRun, one}
use Rattle.graph_runs.specs.Moves.{further}
use Rattle.graph_runs.specs.Turned.{after_signals, after_waits, IsNextSignals, IsNextSamples, IsFirstWaits}
use Rattle.graph_runs.specs.TaskEvents.{TaskEvent, IsNext, after_turn, sample, signal, first_wait, exchange_wait, leave, child, child_now}
use Rattle.graph_runs.specs.Nexts.{first_missing}
use Rattle.graph_runs.specs.Reached.{IsReachable}
use Rattle.graph_runs.proofs.InBlocks.{next_signals_are, next_samples_are, first_waits_are, next_signals_keep, next_samples_keep, first_waits_keep}
use Rattle.graph_runs.proofs.JoinsNow.{next_child_now_is}
use Rattle.graph_runs.proofs.Turned.{exchange_wait_is, next_leave_is, next_child_is}
use Rattle.graph_runs.proofs.Whose.{task_of, IsInOrder}
use Rattle.graph_runs.proofs.Reaching.{reached_moved, signal_gives_none, wait_gives_none, drop_gives_none, modes_registered, tasks_registered, numbers_registered, to_come_registered, by_members, by_numbers}
use Rattle.graph_runs.proofs.TurnJoins.{join_reached}

-- a source's samples
pub samples_reached : (job : Job) (m : Moment) (t j p n : ℕ) (vs : List ℤ) → IsGraph job.graph
    → t < length job.graph.tasks → p < length job.graph.phasers → IsNextSamples job m t j p n vs
    → first_missing job m t ≡ None → IsReachable job m
    → IsReachable job (after_signals job t j p n vs (further (m.begun t) vs) m)
samples_reached job m t j p n vs is there pp next all reached =
    let after = after_signals job t j p n vs (further (m.begun t) vs) m in
    let s = next_samples_are job m t j p n vs next (reached.ran.tasks t there) in
    reached_moved job m after t p (Signalled n (map one vs) (phaser_at job.graph p).single) s.moved
    (signal_gives_none n (map one vs) (phaser_at job.graph p).single) all
    (next_samples_keep job m t j p n vs is there pp next reached.ran) reached

-- a filter's outputs
pub signals_reached : (job : Job) (m : Moment) (t j p n : ℕ) (vs : List ℤ) → IsGraph job.graph
    → t < length job.graph.tasks → p < length job.graph.phasers → IsNextSignals job m t j p n vs
    → first_missing job m t ≡ None → IsReachable job m
    → IsReachable job (after_signals job t j p n vs (m.begun t) m)
signals_reached job m t j p n vs is there pp next all reached =
    let after = after_signals job t j p n vs (m.begun t) m in
    let s = next_signals_are job m t j p n vs next (reached.ran.tasks t there) in
    reached_moved job m after t p (Signalled n (map one vs) (phaser_at job.graph p).single) s.moved
    (signal_gives_none n (map one vs) (phaser_at job.graph p).single) all
    (next_signals_keep job m t j p n vs is there pp next reached.ran) reached

-- what a filter or a sink got
pub waits_reached : (job : Job) (m : Moment) (t k p n : ℕ) (outcomes : List Outcome)
    → IsGraph job.graph → t < length job.graph.tasks → p < length job.graph.phasers
    → IsFirstWaits job m t k p n outcomes → first_missing job m t ≡ None → IsReachable job m
    → IsReachable job (after_waits t k p n outcomes (further (m.begun t) outcomes) m)
waits_reached job m t k p n outcomes is there pp next all reached =
    let after = after_waits t k p n outcomes (further (m.begun t) outcomes) m in
    let s = first_waits_are job m t k p n outcomes next in
    reached_moved job m after t p (Waited n (length outcomes)) s.moved
    (wait_gives_none n (length outcomes)) all
    (first_waits_keep job m t k p n outcomes is there pp next reached.ran) reached

-- ---- a turn's event

pub reached_after : (job : Job) (m : Moment) (event : TaskEvent) → IsGraph job.graph
    → IsReachable job m → IsNext job m event → first_missing job m (task_of event) ≡ None
    → IsInOrder job m event → HasRun job (after_turn job event m)
    → IsReachable job (after_turn job event m)
reached_after job m (sample t j p n vs) is reached next all missing ran =
    samples_reached job m t j p n vs is next.0.task next.0.phaser next.1 all reached
reached_after job m (signal t j p n vs) is reached next all missing ran =
    signals_reached job m t j p n vs is next.0.task next.0.phaser next.1 all reached
reached_after job m (first_wait t k p n outcomes) is reached next all missing ran =
    waits_reached job m t k p n outcomes is next.0.task next.0.phaser next.1 all reached
reached_after job m (exchange_wait t p n outcome) is reached next all missing ran =
    let s = exchange_wait_is job m t p n outcome next.1 in
    reached_moved job m (after_turn job (exchange_wait t p n outcome) m) t p (Waited n 1) s.moved
    (wait_gives_none n 1) all ran reached
reached_after job m (leave t p n) is reached next all missing ran =
    let s = next_leave_is job m t p n next.1 in
    reached_moved job m (after_turn job (leave t p n) m) t p (Dropped n) s.moved
    (drop_gives_none n) all ran reached
reached_after job m (child t p n c a mode) is reached next all missing ran =
    let after = after_turn job (child t p n c a mode) m in
    let u = next.1.0 in
    let s = next_child_is job m t p n c a mode u next.1.1 in
    record {
      ran = ran;
      modes = modes_registered job m after t p n c a mode u is reached.ran ran s missing
          next.0.phaser reached.modes;
      only_tasks = tasks_registered job m after t p n c a mode u s reached.only_tasks;
      members = by_members job after ran
          (numbers_registered job m after t p n c a mode u s
          (by_numbers job m reached.ran reached.members));
      to_come = to_come_registered job m after t p n c a mode u s reached.to_come;
    }
reached_after job m (child_now t p n c a) is reached next all missing ran =
    let u = next.1.0 in
    join_reached job m (after_turn job (child_now t p n c a) m) t p n c a u is
    (next_child_now_is job m t p n c a u next.1.1) next.0.task next.0.phaser missing reached
