-- Each is the next event, as a test says.
use Rattle.std.proofs.Common.{ℕ, ◌<◌, refl, arith, pos}
use Rattle.phase_base.specs.declared.mode.Mode.TheVariants.{Wait}
use Rattle.phase_accum.specs.declared.outcome.Outcome.TheVariants.{Value}
use Rattle.graph_runs.specs.Moments.{Moment, HasRun}
use Rattle.worked_runs.specs.Runs.{exchange_wait}
use Rattle.worked_runs.specs.Worked.{worked, worked_opening, worked_sample, after_first_wait, after_signal_on_e, before_late, before_end, late_registers, late_leaves}
use Rattle.worked_runs.proofs.NextTests.{Given, is_next_sample, is_next_signal, is_first_wait}
use Rattle.worked_runs.proofs.BlockTests.{is_next}
use Rattle.worked_runs.proofs.WorkedRun.{worked-is}
use Rattle.worked_runs.proofs.worked_events.events_as_moves.Goals as goal

given : (m : Moment) (t p : ℕ) → t < 6 → p < 6 → HasRun worked m → Given worked m t p
given m t p task phaser ran =
    record { graph = worked-is; ran = ran; there = record { task = task; phaser = phaser } }

pub returns-clause-sample : goal.returns-clause-sample
returns-clause-sample c =
    let ran = c.a_run_from_its_opening_to_its_end.ensures.opening in
    c.next_events_are_moves.ensures.sample worked worked_opening 0 0 0 1 (pos 5)
    ((is_next_sample worked worked_opening 0 0 0 1 (pos 5)).sound refl
    (given worked_opening 0 0 (omega arith) (omega arith) ran))
    (ran.tasks 0 (omega arith))

pub returns-clause-first_wait : goal.returns-clause-first_wait
returns-clause-first_wait c =
    let ran = c.a_run_from_its_opening_to_its_end.ensures.through.1.0 in
    c.next_events_are_moves.ensures.first_wait worked worked_sample 1 0 0 2 (Value (pos 5))
    ((is_first_wait worked worked_sample 1 0 0 2 (Value (pos 5))).sound refl
    (given worked_sample 1 0 (omega arith) (omega arith) ran))

pub returns-clause-signal : goal.returns-clause-signal
returns-clause-signal c =
    let ran = c.a_run_from_its_opening_to_its_end.ensures.through.1.1.0 in
    c.next_events_are_moves.ensures.signal worked after_first_wait 1 0 1 1 (pos 5)
    ((is_next_signal worked after_first_wait 1 0 1 1 (pos 5)).sound refl
    (given after_first_wait 1 1 (omega arith) (omega arith) ran))
    (ran.tasks 1 (omega arith))

pub returns-clause-exchange_wait : goal.returns-clause-exchange_wait
returns-clause-exchange_wait c =
    let ran = c.a_run_from_its_opening_to_its_end.ensures.through.1.1.1.0 in
    c.next_events_are_moves.ensures.exchange_wait worked after_signal_on_e 1 1 1 (Value (pos 5))
    ((is_next worked after_signal_on_e (exchange_wait 1 1 1 (Value (pos 5)))).sound refl worked-is
    ran).1

pub returns-clause-leave : goal.returns-clause-leave
returns-clause-leave c =
    let ran = c.a_run_from_its_opening_to_its_end.ensures.before_end in
    c.next_events_are_moves.ensures.leave worked before_end 5 5 3
    ((is_next worked before_end late_leaves).sound refl worked-is ran).1

pub returns-clause-child : goal.returns-clause-child
returns-clause-child c =
    let ran = c.a_run_from_its_opening_to_its_end.ensures.before_late in
    let next = ((is_next worked before_late late_registers).sound refl worked-is ran).1 in
    c.next_events_are_moves.ensures.child worked before_late 4 5 2 5 3 Wait next.0 next.1
