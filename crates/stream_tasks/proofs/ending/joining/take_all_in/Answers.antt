-- What was popped is the last of what was left, and its place is that of its registration.
use Rattle.std.proofs.Common.{◌≡◌, ℕ, ◌+◌, ◌-◌, take, ◌<◌, [], ◌∷◌, ◌++◌, length, get_or, sym, ap, subst, ◌∙◌, arith}
use Rattle.std.proofs.lemmas.List.{length-append}
use Rattle.stream_lists.specs.Jobs.{Job}
use Rattle.graph_base.specs.declared.registration.Registration.{Registration}
use Rattle.stream_tasks.specs.Joinings.{HasPlaceFor}
use Rattle.stream_tasks.specs.EndsInside.{HasTakenIn}
use Rattle.graph_base.specs.Graphs.{Graph, task_at}
use Rattle.graph_base.specs.Registrations.{registrations_of, no_registration}
use Rattle.graph_runs.specs.Nexts.{registrations_at}
use Rattle.graph_runs.specs.TaskPlaces.{registration_at}
use Rattle.stream_tasks.proofs.TakingIn.{none_taken, popped_place, popped_taken, place_within}
use Rattle.stream_tasks.proofs.ending.joining.take_all_in.Goals as goal

pub loop-init : goal.loop-init
loop-init c = (
  none_taken c.args.job.now c.args.t c.args.joined.now.items c.args.lefts.items,
  (let long = c.requires.long in omega arith),
)

pub returns-in_default-clause-grown : goal.returns-in_default-clause-grown
returns-in_default-clause-grown c = c.loop.invariant.0.grown

pub returns-in_default-clause-taken : goal.returns-in_default-clause-taken
returns-in_default-clause-taken c = λ i left e.
    (let items : c.loop.lefts.items ≡ c.pop.new.self.items ++ [] = c.in_default.ensures.items in
    let zero : c.loop.lefts.len ≡ 0 = c.in_default.ensures.cases.0 in
    let nothing : c.pop.new.self.items ≡ [] =
    c.in_default.ensures.rest ∙ ap (λ n. take (n - 1) c.loop.lefts.items) zero in
    let none = ap length (items ∙ ap (λ l. l ++ []) nothing) in
    c.loop.invariant.0.taken i left e (omega arith))

pub returns-clause-grown : goal.returns-clause-grown
returns-clause-grown c = c.loop.invariant.0.grown

pub returns-clause-taken : goal.returns-clause-taken
returns-clause-taken c = λ i left e.
    (let all = c.loop.invariant.1 in
    let count : c.registrations-end.result ≡ length (registrations_at c.args.job.now c.args.t) =
    c.registrations-end.ensures.count
    ∙ ap (λ (g : Graph). length (registrations_of g (task_at g c.args.t))) c.graph.ensures.graph in
    let over = c.loop-test.false in
    c.loop.invariant.0.taken i left e (omega arith))

pub registration-p-requires-clause-number : goal.registration-p-requires-clause-number
registration-p-requires-clause-number c =
    let popped = c.in-Some.ensures.items in
    let all = c.loop.invariant.1 in
    let same : registrations_of c.graph-in-loop.result.now
    (task_at c.graph-in-loop.result.now c.args.t) ≡ registrations_at c.args.job.now c.args.t =
    ap (λ (g : Graph). registrations_of g (task_at g c.args.t)) c.graph-in-loop.ensures.graph in
    let long : length c.loop.lefts.items ≡ length c.pop.new.self.items + 1 =
    ap length popped ∙ length-append c.pop.new.self.items (c.in-Some.left ∷ []) in
    omega (arith, ap length same, c.len.ensures)

-- a registration as code reads it
registration_is : (job : Job) (t k n : ℕ) (g : Graph) (r : Registration)
    → r ≡ get_or (registrations_of g (task_at g t)) k no_registration → g ≡ job.graph → k ≡ n
    → r ≡ registration_at job t n
registration_is job t k n g r is same at =
    is ∙ ap (λ (x : Graph). get_or (registrations_of x (task_at x t)) k no_registration) same
    ∙ ap (registration_at job t) at

pub take_in-requires-clause-there : goal.take_in-requires-clause-there
take_in-requires-clause-there c =
    let place = popped_place c.args.job.now c.args.t c.args.joined.now.items c.loop.joined.items
    c.args.lefts.items c.loop.lefts.items c.pop.new.self.items c.in-Some.left c.loop.invariant.0
    c.in-Some.ensures.items c.requires.there in
    subst (λ (r : Registration). HasPlaceFor c.loop.joined.items r.phaser c.in-Some.left) (sym (registration_is c.args.job.now c.args.t c.len.result (length c.pop.new.self.items)
    c.graph-in-loop.result.now c.registration-p.result c.registration-p.ensures
    c.graph-in-loop.ensures.graph (omega (arith, c.len.ensures)))) place

pub take_in-requires-clause-within : goal.take_in-requires-clause-within
take_in-requires-clause-within c =
    let place = popped_place c.args.job.now c.args.t c.args.joined.now.items c.loop.joined.items
    c.args.lefts.items c.loop.lefts.items c.pop.new.self.items c.in-Some.left c.loop.invariant.0
    c.in-Some.ensures.items c.requires.there in
    subst (λ (r : Registration). r.phaser < length c.loop.joined.items) (sym (registration_is c.args.job.now c.args.t c.len.result (length c.pop.new.self.items)
    c.graph-in-loop.result.now c.registration-p.result c.registration-p.ensures
    c.graph-in-loop.ensures.graph (omega (arith, c.len.ensures))))
    (place_within c.loop.joined.items
    (registration_at c.args.job.now c.args.t (length c.pop.new.self.items)).phaser c.in-Some.left place)

pub loop-preserved : goal.loop-preserved
loop-preserved c =
    let popped = c.in-Some.ensures.items in
    let long : length c.loop.lefts.items ≡ length c.pop.new.self.items + 1 =
    ap length popped ∙ length-append c.pop.new.self.items (c.in-Some.left ∷ []) in
    let all = c.loop.invariant.1 in (
      popped_taken c.args.job.now c.args.t c.args.joined.now.items c.loop.joined.items
          c.args.lefts.items c.loop.lefts.items c.pop.new.self.items c.in-Some.left
          c.loop.invariant.0 popped c.take_in.new.joined.items c.requires.there
          (subst (λ (r : Registration). HasTakenIn c.loop.joined.items c.take_in.new.joined.items r.phaser
          c.in-Some.left) (registration_is c.args.job.now c.args.t c.len.result (length c.pop.new.self.items)
          c.graph-in-loop.result.now c.registration-p.result c.registration-p.ensures
          c.graph-in-loop.ensures.graph (omega (arith, c.len.ensures))) c.take_in.ensures),
      omega arith,
    )
