-- Each step goes on from the moment to which those before led.
use Rattle.std.proofs.Common.{◌∙◌, true, refl, sym, subst, inl, inr}
use Rattle.stream_job.specs.Buffers.{HasPlaces}
use Rattle.stream_job.proofs.BareSteps.{none_stepped}
use Rattle.stream_job.proofs.FedPasses.{some_after, steps_on}
use Rattle.stream_job.proofs.machine.Machine.pass_on.Goals as goal

pub loop-init : goal.loop-init
loop-init c = (λ s m at. none_stepped _ c.args.t m c.args.self.now at, refl, refl)

pub pass_value-requires-clause-machine : goal.pass_value-requires-clause-machine
pass_value-requires-clause-machine c =
    some_after c.args.job.now c.args.self.now c.loop.self c.args.t c.loop.moved
    c.loop.invariant.0 c.requires.machine

pub pass_value-requires-clause-places : goal.pass_value-requires-clause-places
pass_value-requires-clause-places c =
    subst (HasPlaces c.args.job.now) (sym c.loop.invariant.2) c.requires.places

pub returns-then-not-pass_value-clause-steps : goal.returns-then-not-pass_value-clause-steps
returns-then-not-pass_value-clause-steps c =
    steps_on c.args.job.now c.args.self.now c.loop.self _ c.args.t c.loop.moved
    c.pass_value.result c.loop.moved c.loop.invariant.0 c.pass_value.ensures.steps (λ e. inl e)

pub returns-then-not-pass_value-clause-lines : goal.returns-then-not-pass_value-clause-lines
returns-then-not-pass_value-clause-lines c = c.pass_value.ensures.lines ∙ c.loop.invariant.1

pub returns-then-not-pass_value-clause-places : goal.returns-then-not-pass_value-clause-places
returns-then-not-pass_value-clause-places c = c.pass_value.ensures.places ∙ c.loop.invariant.2

pub loop-preserved : goal.loop-preserved
loop-preserved c = (
  steps_on c.args.job.now c.args.self.now c.loop.self _ c.args.t c.loop.moved
      c.pass_value.result true c.loop.invariant.0 c.pass_value.ensures.steps
      (λ e. inr c.if-not-pass_value.false),
  c.pass_value.ensures.lines ∙ c.loop.invariant.1,
  c.pass_value.ensures.places ∙ c.loop.invariant.2,
)

pub returns-clause-steps : goal.returns-clause-steps
returns-clause-steps c = c.loop.invariant.0

pub returns-clause-lines : goal.returns-clause-lines
returns-clause-lines c = c.loop.invariant.1

pub returns-clause-places : goal.returns-clause-places
returns-clause-places c = c.loop.invariant.2
