-- Of a registration, a leave and samples no value can be out of range.
use Rattle.std.proofs.Common.{◌≢◌, ℕ, refl}
use Rattle.stream_lists.specs.Jobs.{Job, with_samples}
use Rattle.graph_runs.proofs.Signalling.{live-is}
use Rattle.stream_job.specs.InRange.{IsGoodSize}
use Rattle.stream_job.specs.Machines.{next_by}
use Rattle.stream_job.specs.Stepping.{IsNextIn}
use Rattle.stream_job.specs.declared.machine.Machine.{Machine}
use Rattle.stream_job.specs.declared.step.Step.{Step}
use Rattle.stream_job.specs.declared.step.Step.TheVariants as step
use Rattle.stream_job.proofs.Lively.{live_next, makes_one}
use Rattle.stream_job.proofs.WentTurns.{IsQuiet, quiet_steps}
use Rattle.stream_job.proofs.WhatNext.{samples_begins}
use Rattle.stream_job.proofs.machine.Machine.ahead.Goals as goal

size : {steps : ℕ} (job : Job) (machine : Machine) (t : ℕ) (it : Step) → it ≢ step.NotLive
    → ((output : ℕ) → it ≢ step.Signal output) → ((input : ℕ) → it ≢ step.Wait input)
    → it ≢ step.Exchange → IsNextIn steps job machine t (next_by it)
    → IsGoodSize steps steps job machine t
size {steps} job machine t it lives no_signal no_wait no_exchange next =
    quiet_steps job machine t (next_by it) next (quiet it lives no_signal no_wait no_exchange next)
    (next.sized (live-is job next.some.0 t (live_next job next.some.0 t (next_by it)
    (next.is next.some.0 next.some.1) (makes_one it lives))).there).block.some
  where
    quiet : (it : Step) → it ≢ step.NotLive → ((output : ℕ) → it ≢ step.Signal output)
        → ((input : ℕ) → it ≢ step.Wait input) → it ≢ step.Exchange
        → IsNextIn steps job machine t (next_by it) → IsQuiet job t (next_by it)
    quiet step.NotLive a b c d next = absurd (a refl)
    quiet (step.Register child) a b c d next = tt
    quiet step.Leave a b c d next = tt
    quiet step.Sample a b c d next =
        (samples_begins job next.some.0 t (next.is next.some.0 next.some.1)).kind
    quiet (step.Signal output) a b c d next = absurd (b output refl)
    quiet (step.Wait input) a b c d next = absurd (c input refl)
    quiet step.Exchange a b c d next = absurd (d refl)

pub returns-in_default : goal.returns-in_default
returns-in_default c = λ s next.
    size (with_samples s c.args.job.now) c.args.self.now c.args.t c.args.step c.requires.lives
    (λ j e. c.in_default.not-Signal j e) (λ k e. c.in_default.not-Wait k e)
    (λ e. c.in_default.not-Exchange e) next
