-- Event by event, by the laws.
use Rattle.graph_base.specs.TaskLines.{IsGraph}
use Rattle.stream_lists.specs.Jobs.{Job}
use Rattle.graph_runs.specs.Moments.{Moment, HasRun}
use Rattle.worked_runs.specs.Runs.{TaskEvent, sample, signal, first_wait, exchange_wait, leave, child, child_now, after_turn, IsNext}
use Rattle.worked_runs.proofs.RunTests.{run_through}
use Rattle.worked_runs.proofs.worked_run.turns_lead_on.Goals as goal

pub returns : goal.returns
returns c = λ job m turns is next ran. run_through job m turns (keeps job is) next ran
  where
    keeps : (job : Job) → IsGraph job.graph → (m : Moment) (turn : TaskEvent) → IsNext job m turn
        → HasRun job m → HasRun job (after_turn job turn m)
    keeps job is m (sample t j p n vs) next ran =
        c.blocks_keep.ensures.samples job m t j p n vs is next.0.task next.0.phaser next.1 ran
    keeps job is m (signal t j p n vs) next ran =
        c.blocks_keep.ensures.signals job m t j p n vs is next.0.task next.0.phaser next.1 ran
    keeps job is m (first_wait t k p n outcomes) next ran =
        c.blocks_keep.ensures.first_waits job m t k p n outcomes is next.0.task next.0.phaser next.1
        ran
    keeps job is m (exchange_wait t p n outcome) next ran =
        c.turns_keep.ensures.exchange_wait job m t p n outcome is next.0.task next.0.phaser next.1
        ran
    keeps job is m (leave t p n) next ran =
        c.turns_keep.ensures.leave job m t p n is next.0.task next.0.phaser next.1 ran
    keeps job is m (child t p n c' a mode) next ran =
        c.turns_keep.ensures.child job m t p n c' a mode next.1.0 is next.0.task next.1.1 ran
    keeps job is m (child_now t p n c' a) next ran =
        c.blocks_keep.ensures.child_now job m t p n c' a next.1.0 is next.0.task next.1.1 ran
