-- Late has its moment, and each other task the one before.
use Rattle.std.proofs.Common.{ℕ, cond, eqb, [], refl}
use Rattle.phase_base.specs.declared.mode.Mode.TheVariants.{Wait}
use Rattle.graph_runs.specs.Moments.{Moment, TaskRan}
use Rattle.graph_runs.specs.Moves.{HasGrown, OthersMoved}
use Rattle.graph_runs.proofs.Registering.{others_register}
use Rattle.worked_runs.specs.Worked.{worked, before_late, with_late, late_registers, by_out}
use Rattle.worked_runs.proofs.Histories.{turn_begins, grown, nothing_moved, by_task}
use Rattle.worked_runs.proofs.WorkedRun.{worked-is}
use Rattle.worked_runs.proofs.worked_events.parts_of_a_run.Goals as goal

pub returns : goal.returns
returns c =
    let was = c.a_run_from_its_opening_to_its_end.ensures.before_late in
    let ran = c.a_run_from_its_opening_to_its_end.ensures.with_late in
    let Ran : Moment → ℕ → Type 0 = λ m t. TaskRan worked m t in
    let Grown : Moment → ℕ → Type 0 = λ m t. HasGrown worked m with_late t in
    let Moved : Moment → ℕ → Type 0 = λ m t. OthersMoved worked m with_late t in
    c.parts_join.ensures worked with_late (λ t. cond (eqb t 5) with_late before_late) worked-is
    ran.phasers
    (λ t there. by_task Ran 5 t with_late before_late (λ same. ran.tasks t there)
    (λ other. was.tasks t there))
    (λ t there. by_task Grown 5 t with_late before_late
    (λ same. grown worked with_late with_late t worked-is there ran ran
    (λ q. record { later = []; is = refl }))
    (λ other. grown worked before_late with_late t worked-is there was ran
    (turn_begins worked late_registers before_late)))
    (λ t there. by_task Moved 5 t with_late before_late
    (λ same. nothing_moved worked with_late t)
    (λ other. others_register worked before_late with_late 4 5 2 5 3 Wait by_out
    c.events_as_moves.ensures.child t other))
