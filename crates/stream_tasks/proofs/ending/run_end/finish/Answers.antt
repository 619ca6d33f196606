-- What was gathered and agrees is the end of a run, of which the law tells the answer.
use Rattle.std.proofs.Common.{◌≡◌, ◌<◌, ℕ, [], length, map, get_or, IfSome, subst, arith}
use Rattle.graph_base.specs.TaskLines.{IsGraph}
use Rattle.graph_runs.specs.Settled.{IsReady}
use Rattle.graph_runs.specs.RunEnds.{Ends}
use Rattle.stream_tasks.specs.Gatherings.{AreGathered}
use Rattle.stream_tasks.specs.Agreeing.{Agrees, AreOfTasks}
use Rattle.stream_tasks.proofs.EndEnding.{is_run_end, are_lines}
use Rattle.stream_tasks.proofs.ending.run_end.finish.Goals as goal

pub gather-requires-clause-graph : goal.gather-requires-clause-graph
gather-requires-clause-graph c = subst IsGraph c.graph.ensures.graph c.tasks-tasks.ensures.graph

pub gather-requires-clause-left : goal.gather-requires-clause-left
gather-requires-clause-left c = (
  c.requires.left.0,
  λ p pp. (let f = c.requires.left.1 p pp in (f.0, f.1, f.2.is_left)),
  c.requires.left.2,
)

pub returns : goal.returns
returns c =
    let job = c.args.job.now in
    let parts = c.in-Some.parts.items in
    let joined = c.gather.new.joined.items in
    let given : ℕ → _ = λ p. get_or (map (λ g. g.items) c.args.gave.now) p [] in
    let all = subst (λ o. IfSome o (λ found. (ends : Ends)
    × AreGathered job c.args.founders.items joined found.items ends
    × (length ends ≡ length job.graph.tasks))) c.in-Some.is c.in_ok-parts.ensures in
    let agree : (u : ℕ) → u < length job.graph.tasks → Agrees job parts u =
    λ u there. subst (λ l. Agrees job l u) c.deref.ensures.value
    (c.all_agree.ensures c.if-not-all_agree.false u there) in
    let known : (p : ℕ) → p < length job.graph.phasers → AreOfTasks job parts p (given p) =
    λ p pp. subst (λ l. AreOfTasks job l p (given p)) c.deref-else-not-all_agree.ensures.value
    (c.all_of_tasks.ensures c.if-not-all_of_tasks.false p (omega (arith, pp, c.requires.gave))) in
    let ready : IsReady job = record {
      graph = subst IsGraph c.graph.ensures.graph c.tasks-tasks.ensures.graph;
      apart = c.graph.ensures.apart;
    } in
    let is = is_run_end job c.requires.left.0 c.args.founders.items joined parts all.0 given all.1 all.2
    agree c.requires.left.1 known in
    let answer = c.runs_end.ensures job all.0 ready is in
    are_lines job c.requires.left.0 c.args.founders.items joined parts all.0 given all.1 all.2
    agree c.requires.left.1 known answer c.in_ok-sink_lines.field-0.items
    c.in_ok-sink_lines.ensures.values c.in_ok-sink_lines.ensures.starts
    c.in_ok-sink_lines.ensures.tasks
