-- The registration that is next, by how many the child has.
use Rattle.std.proofs.Common.{◌≡◌, ◌<◌, ℕ, Some, length, get_or, sym, ap, ◌∙◌, arith}
use Rattle.std.proofs.lemmas.Option.{slice_get_within, slice_get-get_or, same_Some}
use Rattle.graph_base.specs.Graphs.{task_at}
use Rattle.graph_base.specs.Registrations.{registrations_of, no_registration}
use Rattle.stream_members.specs.Members.{Spot}
use Rattle.graph_runs.specs.Nexts.{registrations_at}
use Rattle.graph_runs.specs.TaskPlaces.{registration_at}
use Rattle.stream_tasks.specs.Registering.{IsRegistering}
use Rattle.stream_tasks.specs.Children.{IsNextOn}
use Rattle.stream_tasks.specs.declared.child.Child.{Child}
use Rattle.stream_tasks.proofs.task_state.TaskState.register.Goals as goal

next_on : (c : goal.After-add-arg-1) (spots : ℕ → Spot)
    → IsRegistering c.args.job.now spots c.args.self.now c.args.i
    → IsNextOn c.args.job.now spots c.args.self.now c.args.i c.in-Some.k
    c.registration-registration.result
next_on c spots n =
    let s = c.args.self.now in
    let few = slice_get_within s.children.items c.args.i n.kid n.found in
    let kid : c.index-2.result.now ≡ n.kid =
    same_Some c.index-2.result.now n.kid
    (ap Some c.index-2.ensures ∙ sym (slice_get-get_or s.children.items c.args.i c.index-2.result.now few) ∙ n.found) in
    let first : c.index.result.now ≡ n.kid =
    same_Some c.index.result.now n.kid
    (ap Some c.index.ensures ∙ sym (slice_get-get_or s.children.items c.args.i c.index.result.now few) ∙ n.found) in
    let made : c.len-made.result ≡ length n.kid.numbers.items =
    c.len-made.ensures.value ∙ ap (λ (x : Child). length x.numbers.items) kid in
    let count : c.registrations.result ≡ length (registrations_at c.args.job.now n.kid.task) =
    c.registrations.ensures.count
    ∙ ap (λ g. length (registrations_of g (task_at g c.index.result.now.task))) c.graph.ensures.graph
    ∙ ap (λ (x : Child). length (registrations_at c.args.job.now x.task)) first in
    let less : c.len-made.result < c.registrations.result = c.if-made-registrations.false in
    record {
      registering = n;
      room = omega arith;
      is = c.registration-registration.ensures
          ∙ ap (λ g. get_or (registrations_of g (task_at g c.index.result.now.task)) c.len-made.result no_registration) c.graph-2.ensures.graph
          ∙ ap (λ (x : Child). registration_at c.args.job.now x.task c.len-made.result) first
          ∙ ap (λ x. registration_at c.args.job.now n.kid.task x) made;
      on = c.in-Some.ensures;
    }

pub add-requires-clause-next : goal.add-requires-clause-next
add-requires-clause-next c = (c.requires.registering.0, next_on c c.requires.registering.0 c.requires.registering.1)

pub returns-clause-registering : goal.returns-clause-registering
returns-clause-registering c = λ spots n met. c.add.ensures.registering spots (next_on c.before spots n)
