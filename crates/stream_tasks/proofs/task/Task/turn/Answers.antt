-- The turn keeps the task one of its run, with the child that it is registering.
use Rattle.std.proofs.Common.{◌≡◌, false}
use Rattle.stream_tasks.specs.Registering.{IsRegistering}
use Rattle.stream_tasks.specs.Tasks.{IsDue}
use Rattle.stream_tasks.proofs.StillRegistering.{registering_task}
use Rattle.stream_tasks.proofs.task.Task.turn.Goals as goal

pub invariant_of-self : goal.invariant_of-self
invariant_of-self g c =
    let is = c.self.invariant.0 in
    let spots = g.J.Run.spots in
    let s = c.self.inside.state in
    let i = c.in-Some.i in
    let new = c.register.new.self in
    let before : IsRegistering g.J.Run.job spots s i = rw c.in-Some.is at c.self.invariant.2 c.if-self.false in
    let now : new.met ≡ false → IsRegistering g.J.Run.job spots new i =
    λ met. rw is at (c.register.ensures.registering spots (rw is before) met) in (
      is,
      registering_task g.J.Run.job spots new i (rw is at c.register.ensures.whole) now,
      rw c.in-Some.is now,
    )

pub invariant_of-self-in-Some-due : goal.invariant_of-self-in-Some-due
invariant_of-self-in-Some-due g c =
    let is = c.self.invariant.0 in
    let spots = g.J.Run.spots in
    let s = c.self.inside.state in
    let job = c.self.inside.job.now in
    let new = c.begin-self-inside.new.self in
    let due : IsDue job s c.in-Some-due.i = c.in-Some-due.ensures.some in
    let task = rw (← is) at c.self.invariant.1 in (
      is,
      rw (← is) (c.begin-self-inside.ensures.task job spots task),
      rw (← is) (c.begin-self-inside.ensures.with job spots task due),
    )

pub invariant_of-self-in-None : goal.invariant_of-self-in-None
invariant_of-self-in-None g c =
    let is = c.self.invariant.0 in
    let spots = g.J.Run.spots in
    let s = c.self.inside.state in
    let new = c.turn.new.self in (
      is,
      rw is at (c.turn.ensures spots (rw is c.self.invariant.1)),
      rw c.in_default.is tt,
    )
