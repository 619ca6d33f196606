use Rattle.std.proofs.Common.{◌≡◌, None, length, subst, ◌∙◌}
use Rattle.std.proofs.lemmas.List.{length-map}
use Rattle.graph_base.specs.Graphs.{sources_of}
use Rattle.stream_lists.specs.Meetings.{meeting_line}
use Rattle.stream_lists.proofs.job.Job.graph.Goals as goal

-- there are samples for each source
pub returns-clause-samples : goal.returns-clause-samples
returns-clause-samples c =
    subst (λ job. length job.samples ≡ sources_of job.graph) c.self.view_is
    (length-map c.self.inside.samples.items (λ list. list.items) ∙ c.self.invariant.each)

-- no two tasks meet
pub returns-clause-apart : goal.returns-clause-apart
returns-clause-apart c =
    subst (λ job. meeting_line job ≡ None) c.self.view_is c.self.invariant.apart
