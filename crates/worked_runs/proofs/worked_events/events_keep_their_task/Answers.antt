-- By the law, from the moment before.
use Rattle.std.proofs.Common.{arith, pos}
use Rattle.phase_base.specs.declared.mode.Mode.TheVariants.{Wait}
use Rattle.phase_accum.specs.declared.outcome.Outcome.TheVariants.{Value}
use Rattle.worked_runs.specs.Worked.{worked, worked_opening, worked_sample, after_first_wait, before_late, with_late, before_end, worked_end, late_registers, late_leaves, by_out}
use Rattle.worked_runs.proofs.Histories.{turn_begins, grown}
use Rattle.worked_runs.proofs.WorkedRun.{worked-is}
use Rattle.worked_runs.proofs.worked_events.events_keep_their_task.Goals as goal

pub returns-clause-signal : goal.returns-clause-signal
returns-clause-signal c =
    c.own_events_keep.ensures.signal worked worked_opening worked_sample 0 0 0 1 (pos 5) worked-is
    (omega arith) c.events_as_moves.ensures.sample
    (c.a_run_from_its_opening_to_its_end.ensures.opening.tasks 0 (omega arith))

pub returns-clause-wait : goal.returns-clause-wait
returns-clause-wait c =
    c.own_events_keep.ensures.wait worked worked_sample after_first_wait 1 0 0 2 (Value (pos 5))
    worked-is (omega arith) c.events_as_moves.ensures.first_wait
    (c.a_run_from_its_opening_to_its_end.ensures.through.1.0.tasks 1 (omega arith))

pub returns-clause-leave : goal.returns-clause-leave
returns-clause-leave c =
    let was = c.a_run_from_its_opening_to_its_end.ensures.before_end in
    let ran = c.a_run_from_its_opening_to_its_end.ensures.end in
    c.own_events_keep.ensures.leave worked before_end worked_end 5 5 3 worked-is (omega arith)
    (grown worked before_end worked_end 5 worked-is (omega arith) was ran
    (turn_begins worked late_leaves before_end))
    c.events_as_moves.ensures.leave (was.tasks 5 (omega arith))

pub returns-clause-register : goal.returns-clause-register
returns-clause-register c =
    let was = c.a_run_from_its_opening_to_its_end.ensures.before_late in
    let ran = c.a_run_from_its_opening_to_its_end.ensures.with_late in
    c.own_events_keep.ensures.register worked before_late with_late 4 5 2 5 3 Wait by_out worked-is
    (omega arith)
    (grown worked before_late with_late 4 worked-is (omega arith) was ran
    (turn_begins worked late_registers before_late))
    c.events_as_moves.ensures.child (was.tasks 4 (omega arith))

pub returns-clause-child : goal.returns-clause-child
returns-clause-child c =
    let was = c.a_run_from_its_opening_to_its_end.ensures.before_late in
    let ran = c.a_run_from_its_opening_to_its_end.ensures.with_late in
    c.own_events_keep.ensures.child worked before_late with_late 4 5 2 5 3 Wait by_out worked-is
    (omega arith) (was.phasers 5 (omega arith)).legal
    (grown worked before_late with_late 5 worked-is (omega arith) was ran
    (turn_begins worked late_registers before_late))
    c.events_as_moves.ensures.child (was.tasks 4 (omega arith)) (was.tasks 5 (omega arith))
