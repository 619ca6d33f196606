-- The child stands at its parent's moment, and the parent goes on from there.
use Rattle.std.proofs.Common.{refl, sym, subst, ◌∙◌}
use Rattle.std.proofs.lemmas.Option.{slice_get_within}
use Rattle.stream_tasks.specs.Deliveries.{IsRegisteredChild}
use Rattle.stream_tasks.specs.Registering.{IsWith, IsRegistering}
use Rattle.stream_tasks.proofs.Delivering.{goes_on, is_delivered}
use Rattle.stream_tasks.proofs.task.Task.deliver.Goals as goal

pub deliver-requires-clause-place : goal.deliver-requires-clause-place
deliver-requires-clause-place g c =
    let registered = c.if-not-is_registered.ensures.registered refl in
    slice_get_within c.self.inside.state.children.items c.in-Some.i registered.kid registered.found

pub invariant_of-result : goal.invariant_of-result
invariant_of-result g c =
    let job = g.J.Run.job in
    let spots = g.J.Run.spots in
    let old = c.self.inside.state in
    let i = c.in-Some.i in
    let is = c.self.invariant.0 in
    let registering : IsRegistering job spots old i =
    subst (IsWith job spots old) c.in-Some.is c.self.invariant.2 (c.if-not-is_registered.ensures.met refl) in
    let registered : IsRegisteredChild job old i c.open.result.number =
    subst (λ t. IsRegisteredChild job old i t) (c.number.ensures ∙ sym c.open.ensures.number)
    (subst (λ j. IsRegisteredChild j old i c.number.result) is (c.if-not-is_registered.ensures.registered refl)) in (
      is,
      is_delivered job spots i c.open.result old c.deliver.new.self c.deliver.result
          c.self.invariant.1.whole registering registered c.open.ensures.ready c.deliver.ensures,
      tt,
    )

pub invariant_of-self : goal.invariant_of-self
invariant_of-self g c = (
  c.self.invariant.0,
  goes_on g.J.Run.job g.J.Run.spots c.in-Some.i c.open.result c.self.inside.state
      c.deliver.new.self c.deliver.result c.self.invariant.1 c.deliver.ensures,
  tt,
)
