-- It is where it has a number for each registration.
use Rattle.std.proofs.Common.{not, length, ap, ◌∙◌, nat_le, sym}
use Rattle.graph_base.specs.Graphs.{task_at}
use Rattle.graph_base.specs.Registrations.{registrations_of}
use Rattle.stream_lists.specs.Jobs.{with_samples}
use Rattle.stream_job.specs.Places.{place_in_state}
use Rattle.stream_job.proofs.Reading.{registered_by}
use Rattle.stream_job.proofs.task_state.TaskState.is_registered.Goals as goal

pub returns : goal.returns
returns c = λ s m stands.
    registered_by (with_samples s c.args.job.now) m c.args.t (place_in_state c.args.self.now) stands
    ∙ sym (ap (λ n. not (nat_le n c.len.result)) (c.registrations.ensures.count
    ∙ ap (λ g. length (registrations_of g (task_at g c.args.t))) c.graph.ensures.graph)
    ∙ ap (λ n. not (nat_le (length (registrations_of c.args.job.now.graph
    (task_at c.args.job.now.graph c.args.t))) n)) c.len.ensures.value)
