-- The filter makes an output of each of the next numbers.
use Rattle.std.proofs.Common.{◌≡◌, ◌-◌, ◌≤◌, ◌++◌, length, map, refl, subst, ◌∙◌, arith}
use Rattle.std.specs.Prelude.{drop, take}
use Rattle.std.proofs.lemmas.List.{length-drop, length-map, length-take, length-take-le, take_all}
use Rattle.graph_base.specs.Graphs.{task_at}
use Rattle.stream_lists.specs.Lists.{number}
use Rattle.stream_tasks.proofs.Taking.{MadeSoFar, made_few, made_then, numbers_then}
use Rattle.stream_tasks.proofs.turn.filter_all.Goals as goal
use Rattle.stream_tasks.proofs.turn.filter_all.Goals.{After-filtered_all, After-numbers_of-numbers}

-- the numbers that the filter is given
given : (c : After-numbers_of-numbers)
    → take (c.min-end.result - c.loop-at.at) c.numbers_of-numbers.result
    ≡ map number (take (c.min-end.result - c.loop-at.at) (drop c.loop-at.at c.args.outcomes.now))
given c =
    let count = c.min-end.result - c.loop-at.at in
    let outcomes = c.args.outcomes.now in
    let many : length (take count (drop c.loop-at.at outcomes)) ≡ count =
    length-take-le count (drop c.loop-at.at outcomes)
    (omega (arith, c.min-end.ensures, length-drop c.loop-at.at outcomes)) in
    subst (λ n. take n c.numbers_of-numbers.result ≡ map number (take count (drop c.loop-at.at
    outcomes))) many c.numbers_of-numbers.ensures

pub filtered_all-requires-clause-filter : goal.filtered_all-requires-clause-filter
filtered_all-requires-clause-filter c = (
  c.requires.filter.0 ++ map number (take c.loop-at.at c.args.outcomes.now),
  c.loop-at.invariant.0.filter c.requires.filter.0 c.requires.filter.1,
)

-- how many it has made
many : (c : After-numbers_of-numbers) → length c.loop-at.made.items ≡ c.loop-at.at
many c =
    c.loop-at.invariant.0.many
    ∙ (length-map (take c.loop-at.at c.args.outcomes.now) number
    ∙ length-take-le c.loop-at.at c.args.outcomes.now c.loop-at.invariant.2)

pub returns-in_default-clause-few : goal.returns-in_default-clause-few
returns-in_default-clause-few c =
    let here = (goal.at.returns-in_default-clause-few c).After-numbers_of-numbers in
    let task = task_at c.args.job.now.graph c.args.t in
    let ys = take (c.min-end.result - c.loop-at.at) c.numbers_of-numbers.result in
    let taken = c.requires.filter.0 ++ map number (take c.loop-at.at c.args.outcomes.now) in
    let few = made_few task ys c.loop-at.filter c.loop-at.made.items c.filtered_all.new.made.items
    taken (c.loop-at.invariant.0.filter c.requires.filter.0 c.requires.filter.1)
    (c.filtered_all.ensures.made taken) in
    omega (
      arith,
      few,
      many here,
      c.min-end.ensures,
      length-take (c.min-end.result - c.loop-at.at) c.numbers_of-numbers.result,
    )

pub loop-at-preserved : goal.loop-at-preserved
loop-at-preserved c =
    let here = (goal.at.loop-at-preserved c).After-numbers_of-numbers in
    let task = task_at c.args.job.now.graph c.args.t in
    let at = c.loop-at.at in
    let end = c.min-end.result in
    let outcomes = c.args.outcomes.now in
    let ys = take (end - at) c.numbers_of-numbers.result in
    let all = c.filtered_all.ensures.ok.0 (rw c.in-Ok.is refl) in (
      subst (λ l. MadeSoFar task l c.args.filter.now c.filtered_all.new.filter
          c.filtered_all.new.made.items)
          (numbers_then outcomes at end ys (omega (arith, c.min-end.ensures)) (given here))
          (made_then task (map number (take at outcomes)) ys c.args.filter.now c.loop-at.filter
          c.filtered_all.new.filter c.loop-at.made.items c.filtered_all.new.made.items
          c.loop-at.invariant.0 all c.filtered_all.ensures.made c.filtered_all.ensures.filter),
      c.filtered_all.ensures.capacity ∙ c.loop-at.invariant.1,
      omega (arith, c.min-end.ensures),
    )

pub returns-clause-filter : goal.returns-clause-filter
returns-clause-filter c = λ yes taken has.
    let task = task_at c.args.job.now.graph c.args.t in
    let outcomes = c.args.outcomes.now in
    let over : length outcomes ≤ c.loop-at.at = c.loop-at-test.false in
    (subst (λ l. MadeSoFar task (map number l) c.args.filter.now c.loop-at.filter
    c.loop-at.made.items) (take_all c.loop-at.at outcomes over) c.loop-at.invariant.0).filter taken has
