-- Turn by turn.
use Rattle.std.proofs.Common.{Some, take, get_or, refl, ap, subst, ◌∙◌}
use Rattle.graph_runs.specs.Answers.{after_turns}
use Rattle.graph_runs.specs.Beginnings.{opening}
use Rattle.stream_job.specs.Runs.{TellsNone}
use Rattle.stream_job.specs.Turning.{met_by, told_of}
use Rattle.stream_job.proofs.InTurn.{none_met, take_all, none_more, told_here, after_one_more, told_too_big, same_fault}
use Rattle.stream_job.proofs.runs.run_turns.Goals as goal

pub loop-task-preserved : goal.loop-task-preserved
loop-task-preserved c =
    let was = c.loop-task.invariant in (
      c.turn.ensures.job ∙ was.0,
      c.in_ok-place.ensures.met ∙ ap (λ o. met_by o c.in_ok-place.field-0) was.1
          ∙ none_met c.in_ok-place.field-0 c.in_default.not-TooBig,
      after_one_more c.args.job.now c.args.turns.now c.loop-task.task-index c.loop-task.world
          c.turn.new.self c.loop-task-test.true was.0 c.turn.ensures.job was.1 was.2
          c.in_ok-place.ensures.after,
      none_more c.args.job.now c.args.turns.now c.loop-task.task-index c.in_ok-place.field-0
          c.loop-task-test.true c.in_default.not-TooBig
          (told_here c.args.job.now c.loop-task.world
          (after_turns c.args.job.now (opening c.args.job.now)
          (take c.loop-task.task-index c.args.turns.now)) (get_or c.args.turns.now c.loop-task.task-index 0)
          c.in_ok-place.field-0 was.0 was.1 (c.in_ok-place.ensures.table
          (after_turns c.args.job.now (opening c.args.job.now)
          (take c.loop-task.task-index c.args.turns.now)) was.2)) was.3,
    )

pub returns-in-TooBig-clause-too_big : goal.returns-in-TooBig-clause-too_big
returns-in-TooBig-clause-too_big c = λ place phase same.
    let job = c.args.job.now in
    let turns = c.args.turns.now in
    let was = c.loop-task.invariant in
    same_fault job turns c.in-TooBig.place place c.in-TooBig.phase phase _ _ refl refl same
    (told_too_big job turns c.loop-task.task-index c.loop-task.world c.in-TooBig.place
    c.in-TooBig.phase c.loop-task-test.true was.0 was.1 was.3
    (c.in_ok-place.ensures.table
    (after_turns job (opening job) (take c.loop-task.task-index turns)) was.2
    ∙ ap (λ told. Some (told_of told)) c.in-TooBig.is))

pub returns-clause-none : goal.returns-clause-none
returns-clause-none c =
    subst (TellsNone c.args.job.now)
    (take_all c.args.turns.now c.loop-task.task-index c.loop-task-test.false)
    c.loop-task.invariant.3
