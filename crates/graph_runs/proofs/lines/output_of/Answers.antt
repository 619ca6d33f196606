-- By the registration of the output.
use Rattle.std.proofs.Common.{◌<◌, length, get_or, ap, sym, subst, ◌∙◌}
use Rattle.graph_base.specs.Graphs.{task_at}
use Rattle.graph_base.specs.Registrations.{registrations_of, no_registration}
use Rattle.graph_runs.specs.TaskPlaces.{registration_at, registration_of_output}
use Rattle.graph_runs.proofs.Standing.{of_output}
use Rattle.graph_runs.proofs.Outputs.{output_there}
use Rattle.graph_runs.proofs.lines.output_of.Goals as goal

pub registration-requires-clause-number : goal.registration-requires-clause-number
registration-requires-clause-number c =
    let job = c.args.job.now in
    let same = c.registration_of_output-k.ensures
    ∙ ap (λ task. registration_of_output task c.args.j) c.line_of.ensures.task in
    let out = of_output job c.args.t c.args.j c.requires.graph c.requires.task c.requires.output in
    subst (λ g. c.registration_of_output-k.result < length (registrations_of g (task_at g c.args.t)))
    (sym c.graph.ensures.graph)
    (subst (λ k. k < length (registrations_of job.graph (task_at job.graph c.args.t))) (sym same)
    out.0)

pub returns-clause-phaser : goal.returns-clause-phaser
returns-clause-phaser c =
    let job = c.args.job.now in
    let same = c.registration_of_output-k.ensures
    ∙ ap (λ task. registration_of_output task c.args.j) c.line_of.ensures.task in
    let out = of_output job c.args.t c.args.j c.requires.graph c.requires.task c.requires.output in
    ap (λ r. r.phaser) (c.registration.ensures
    ∙ ap (λ g. get_or (registrations_of g (task_at g c.args.t)) c.registration_of_output-k.result
    no_registration) c.graph.ensures.graph
    ∙ ap (λ k. registration_at job c.args.t k) same)
    ∙ out.1

pub returns-clause-within : goal.returns-clause-within
returns-clause-within c =
    let job = c.args.job.now in
    subst (λ p. p < length job.graph.phasers) (sym (returns-clause-phaser c))
    (output_there job c.args.t c.args.j c.requires.graph c.requires.task c.requires.output)
