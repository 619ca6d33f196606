-- A root has the next number of the phaser.
use Rattle.std.proofs.Common.{◌≡◌, ℕ, ◌+◌, ◌<◌, [], ◌∷◌, ◌++◌, Some, length, get_or, sym, ap, ◌∙◌, arith}
use Rattle.std.proofs.lemmas.List.{length-append}
use Rattle.phase_history.specs.Histories.{greatest_used}
use Rattle.graph_base.specs.declared.registration.Registration.{Registration}
use Rattle.graph_base.specs.Graphs.{Graph, task_at}
use Rattle.graph_base.specs.Registrations.{registrations_of, no_registration}
use Rattle.graph_runs.specs.Beginnings.{root_number, roots_joined}
use Rattle.graph_runs.specs.Nexts.{registrations_at}
use Rattle.graph_runs.specs.TaskPlaces.{registration_at}
use Rattle.stream_job.proofs.OpeningTasks.{root_numbered, each-next}
use Rattle.stream_job.proofs.opened_tasks.root_numbers.Goals as goal

pub loop-k-preserved : goal.loop-k-preserved
loop-k-preserved c =
    let job = c.args.job.now in
    let t : ℕ = c.args.t in
    let k : ℕ = c.loop-k.k in
    let numbers = c.loop-k.numbers.items in
    let x : ℕ = c.root_number.result in
    let items : c.push_reserved.new.self.items ≡ numbers ++ x ∷ [] =
    c.push_reserved.ensures.items in
    let many : length numbers ≡ k = c.loop-k.invariant.0 in
    let more = length-append numbers (x ∷ []) in
    let long : length c.push_reserved.new.self.items ≡ length (numbers ++ x ∷ []) =
    ap length items in
    let here : c.registration-p.result ≡ registration_at job t k =
    c.registration-p.ensures
    ∙ ap (λ (g : Graph). get_or (registrations_of g (task_at g t)) k no_registration)
    c.graph-in-loop-k.ensures.graph in
    let all : c.registrations-k-end.result ≡ length (registrations_at job t) =
    c.registrations-k-end.ensures.count
    ∙ ap (λ (g : Graph). length (registrations_of g (task_at g t))) c.graph.ensures.graph in
    let lt : k < length (registrations_at job t) = omega (arith, all, c.loop-k-test.true) in
    let next : root_number job (registration_at job t k).phaser t ≡ Some x =
    root_numbered job t k c.loop-k.invariant.3 lt
    ∙ ap (λ n. Some n) (sym (c.root_number.ensures
    ∙ ap (λ (r : Registration). greatest_used (roots_joined job r.phaser t) + 1) here)) in (
      omega arith,
      each-next (λ i. root_number job (registration_at job t i).phaser t) numbers
          c.push_reserved.new.self.items x k many c.loop-k.invariant.1 next items,
      c.push_reserved.ensures.capacity ∙ c.loop-k.invariant.2,
      c.loop-k.invariant.3,
    )
