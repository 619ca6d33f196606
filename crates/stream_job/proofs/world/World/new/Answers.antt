-- At the opening no task is blocked, and no wait was answered.
use Rattle.std.proofs.Common.{◌≡◌, true, false, length, refl, sym, ap, subst, ◌∙◌}
use Rattle.std.specs.List.{All, list_any}
use Rattle.std.specs.Prelude.{◌==◌, None}
use Rattle.graph_base.specs.Graphs.{Graph}
use Rattle.graph_runs.specs.Beginnings.{opening}
use Rattle.graph_runs.proofs.AnsweredInTurn.{opening_answers_none}
use Rattle.stream_job.specs.Machines.{IsLineOf, KeepsLines, none_given}
use Rattle.stream_job.specs.Worlds.{IsWorldAt}
use Rattle.stream_job.proofs.LinesAfter.{opened_keep}
use Rattle.stream_job.proofs.world.World.new.Goals.{In_ok-parked}
use Rattle.stream_job.proofs.world.World.new.Goals as goal

-- it stands there
stands : (c : In_ok-parked) → IsWorldAt record {
  job = c.args.job.now;
  machine = c.in_ok-machine.machine;
  met = None;
  parked = c.in_ok-parked.parked;
} (opening c.args.job.now)
stands c =
    let job = c.args.job.now in
    let lines = c.in_ok-machine.ensures.lines in
    record {
      machine = c.in_ok-machine.ensures.opening;
      lines = subst (λ l. KeepsLines job none_given (opening job) l.items) (sym lines)
          (opened_keep job c.in_ok-opened_lines.field-0.items c.in_ok-machine.ensures.opening.graph
          c.in_ok-opened_lines.ensures.lines c.in_ok-opened_lines.ensures.starts);
      own = subst (λ l. All (IsLineOf job) l.items) (sym lines) c.in_ok-opened_lines.ensures.own;
      parked = λ p t stands. absurd (let none = ap (list_any (λ u. u == t)) (c.in_ok-parked.ensures.empty p) in
          let wrong : true ≡ false = sym stands ∙ none in cc);
      met = opening_answers_none job;
    }

pub invariant_of-result : goal.invariant_of-result
invariant_of-result c =
    let job = c.args.job.now in
    let here = (goal.at.invariant_of-result c).In_ok-parked in (
      (opening job, stands here),
      c.in_ok-parked.ensures.many ∙ c.phasers.ensures.count
          ∙ ap (λ (g : Graph). length g.phasers) c.graph.ensures.graph,
      c.in_ok-plan.ensures,
      c.in_ok-buffers.ensures,
      c.in_ok-machine.ensures.sizes refl,
    )

pub returns-clause-opening : goal.returns-clause-opening
returns-clause-opening c = stands (goal.at.returns-clause-opening c).In_ok-parked
