use Rattle.std.proofs.Common.{arith, rules, ◌≡◌, ◌<◌, ◌++◌, ◌∷◌, [], length, None, Err, ap, sym, ◌∙◌}
use Rattle.std.proofs.lemmas.List.{map_push, length_push}
use Rattle.std.proofs.lemmas.List.Elements.{All-push}
use Rattle.phase_accum.specs.Sends.{AreSends}
use Rattle.graph_base.specs.Graphs.{Graph}
use Rattle.stream_lists.specs.Lists.{contribution_at}
use Rattle.stream_lists.specs.JobFields.{items_of}
use Rattle.stream_eval.specs.Composing.{member_of, member_option}
use Rattle.stream_lists.specs.Ranges.{output_fault_of}
use Rattle.stream_eval.specs.declared.fault.EvalFault.TheVariants as fault
use Rattle.stream_lists.proofs.Firsts.{first-pass, first-here, filter_map-skip, filter_map-take}
use Rattle.stream_lists.specs.Spans.{schedule_of}
use Rattle.stream_eval.proofs.members.members_on.Goals as goal
use Rattle.stream_eval.proofs.members.members_on.Goals.{in-Some+in-Ok-push, in_default-found}

-- the first fault is this task's
pub returns-in-Err-clause-too_big : goal.returns-in-Err-clause-too_big
returns-in-Err-clause-too_big g c place n e =
    let count = ap (λ (graph : Graph). length graph.tasks) c.graph-2.ensures.graph in
    let within : c.loop-t.t < length c.args.job.now.graph.tasks = omega
    (arith, count, c.loop-t-test.true, c.tasks-t-end.ensures.count) in
    let same : c.in-Err.fault ≡ fault.TooBig place n = grind (arith, e) in
    let here = c.as_member.ensures.too_big place n (c.in-Err.is ∙ ap Err same) in
    c.loop-t.invariant.3 ∙ first-here
    (output_fault_of c.args.job.now (schedule_of c.args.job.now) (items_of c.args.above.now)
    c.args.p) _ c.loop-t.t (place, n) within here

-- a task that is a member stands behind those before it
pub loop-t-preserved : goal.loop-t-preserved
loop-t-preserved g c =
    let count = ap (λ (graph : Graph). length graph.tasks) c.graph-2.ensures.graph in
    let within : c.loop-t.t < length c.args.job.now.graph.tasks = omega
    (arith, count, c.loop-t-test.true, c.tasks-t-end.ensures.count) in
    let first = c.loop-t.invariant.3
    ∙ first-pass (output_fault_of c.args.job.now (schedule_of c.args.job.now)
    (items_of c.args.above.now) c.args.p) _ c.loop-t.t within c.in-Ok-as_member.ensures.fits in
    elim c.match-found.branch [
      | in-Some+in-Ok-push w ↦
          (let at_t = sym c.in-Ok-as_member.ensures.ok ∙ ap member_option w.in-Some.is in
          let sends : AreSends w.in-Some.list.values.items = rw w.in-Some.is at
          c.in-Ok-as_member.ensures.sends in
          rw (w.members-is, w.in-Ok-push.ensures.items) (
            map_push member_of c.loop-t.members.items w.in-Some.list
                ∙ (ap (λ ms. ms ++ member_of w.in-Some.list ∷ []) c.loop-t.invariant.0
                ∙ sym (filter_map-take
                (contribution_at c.args.job.now (schedule_of c.args.job.now) (items_of c.args.above.now)
                c.args.p) c.loop-t.t (member_of w.in-Some.list) at_t)),
            All-push (λ part. AreSends part.values.items) c.loop-t.members.items w.in-Some.list
                c.loop-t.invariant.1 sends,
            omega (arith, length_push c.loop-t.members.items w.in-Some.list, c.loop-t.invariant.2),
            first,
          ))
      | in_default-found w ↦
          (let none : c.in-Ok-as_member.found ≡ None = search rules in
          let at_t = sym c.in-Ok-as_member.ensures.ok ∙ ap member_option none in
          rw w.members-is (
            c.loop-t.invariant.0
                ∙ sym (filter_map-skip
                (contribution_at c.args.job.now (schedule_of c.args.job.now) (items_of c.args.above.now)
                c.args.p) c.loop-t.t at_t),
            c.loop-t.invariant.1,
            omega (arith, c.loop-t.invariant.2),
            first,
          ))
    ]
