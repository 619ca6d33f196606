-- What the filter makes of a part of the outcomes stands behind what it made of those before.
use Rattle.std.proofs.Common.{rules, ◌≡◌, ◌-◌, ◌≤◌, ◌++◌, ◌∷◌, [], map, get_or, take, drop, pos, SFits, w64, to_z, of_z, to_z-of_z, sym, ap, subst, ◌∙◌, arith}
use Rattle.std.proofs.lemmas.List.{length-drop, length-take}
use Rattle.phase_accum.specs.declared.outcome.Outcome.TheVariants.{Value}
use Rattle.graph_base.specs.Graphs.{task_at}
use Rattle.stream_filters.specs.Filter.{output_after}
use Rattle.stream_filters.specs.Range.{ranged}
use Rattle.graph_runs.specs.Steps.{HasFilter}
use Rattle.stream_lists.specs.Lists.{number}
use Rattle.stream_job.specs.Filtering.{HasFiltered}
use Rattle.stream_job.proofs.Filtered.{filtered_one, filtered_then, numbers_then, one_of, take-few}
use Rattle.stream_job.proofs.filtering.filter_all.Goals as goal

pub returns-in-len1-clause-filtered : goal.returns-in-len1-clause-filtered
returns-in-len1-clause-filtered c =
    let task = task_at c.args.job.now.graph c.args.t in
    let os = c.args.outcomes.now in
    let x = number (get_or os 0 (Value (pos 0))) in
    let fits : SFits w64 c.number_taken.result = search rules in
    let got : to_z w64 (of_z w64 c.number_taken.result) ≡ x =
    to_z-of_z fits ∙ c.number_taken.ensures in
    subst (λ l. HasFiltered task (map number l) c.args.filter.now c.filtered.new.filter
    c.args.made.now.items c.push_reserved.new.self.items)
    (sym (one_of os (Value (pos 0)) c.in-len1.len_at_least c.in-len1.len_below))
    (filtered_one task x c.args.filter.now c.filtered.new.filter c.filtered.result
    c.args.made.now.items c.push_reserved.new.self.items
    (λ taken has. c.filtered.ensures.answer taken has
    ∙ ap (λ y. ranged (output_after task.taps task.form (taken ++ y ∷ []))) got)
    (λ taken has. subst (λ y. HasFilter task c.filtered.new.filter (taken ++ y ∷ [])) got
    (c.filtered.ensures.filter taken has)) c.push_reserved.ensures.items)

pub filter_some-at-requires-clause-filter : goal.filter_some-at-requires-clause-filter
filter_some-at-requires-clause-filter c = (
  c.requires.filter.0 ++ map number (take c.loop-at.at c.args.outcomes.now),
  c.loop-at.invariant.0.filter c.requires.filter.0 c.requires.filter.1,
)

pub loop-at-preserved : goal.loop-at-preserved
loop-at-preserved c =
    let task = task_at c.args.job.now.graph c.args.t in
    let os = c.args.outcomes.now in
    let at = c.loop-at.at in
    let end = c.min-end.result in
    let count = c.filter_some-at.result in
    let some = c.filter_some-at.ensures.some in
    let here = length-take (end - at) (drop at os) in
    let rest = length-drop at os in
    let room = c.filter_some-at.ensures.room in
    let few : count ≤ end - at = omega (arith, some.1, here) in
    let made = subst (λ l. HasFiltered task (map number l) c.loop-at.filter
    c.filter_some-at.new.filter c.loop-at.made.items c.filter_some-at.new.made.items)
    (take-few count (end - at) (drop at os) few) c.filter_some-at.ensures.filtered in (
      subst (λ l. HasFiltered task l c.args.filter.now c.filter_some-at.new.filter
          c.args.made.now.items c.filter_some-at.new.made.items) (numbers_then os at count)
          (filtered_then task (map number (take at os)) (map number (take count (drop at os)))
          c.args.filter.now c.loop-at.filter c.filter_some-at.new.filter c.args.made.now.items
          c.loop-at.made.items c.filter_some-at.new.made.items c.loop-at.invariant.0 made),
      room.0 ∙ c.loop-at.invariant.1,
      room.1 ∙ c.loop-at.invariant.2,
      omega (arith, room.2, c.loop-at.invariant.3),
      omega (arith, some.1, here, rest, c.loop-at.invariant.4),
    )
