use Rattle.std.proofs.Common.{◌≡◌, ap, ◌∙◌}
use Rattle.stream_lists.specs.JobFields.{given}
use Rattle.stream_lists.specs.Meetings.{meeting_on, meets_on}
use Rattle.stream_lists.specs.Spans.{spans_of}
use Rattle.stream_lists.proofs.AsMany.{spans-counted}
use Rattle.stream_lists.proofs.meetings.meeting_on.Goals as goal
use Rattle.stream_lists.proofs.meetings.meeting_on.Goals.{After-first_on}

-- the numbers of the samples make the spans
spans_are : (c : After-first_on) → c.deref-2.result.now
    ≡ spans_of (given c.args.graph.now c.args.samples.now)
spans_are c =
    c.deref-2.ensures.value
    ∙ (c.in_ok-spans.ensures.spans ∙ spans-counted c.args.graph.now c.args.samples.now _
    (c.deref.ensures.value ∙ c.in_ok-counts.ensures.counts))

pub returns-clause-meeting : goal.returns-clause-meeting
returns-clause-meeting c =
    let after = (goal.at.returns-clause-meeting c).After-first_on in
    c.first_on.ensures.meeting
    ∙ ap (λ s. meeting_on c.args.graph.now s c.args.t c.args.p) (spans_are after)

pub returns-clause-meets : goal.returns-clause-meets
returns-clause-meets c =
    let after = (goal.at.returns-clause-meets c).After-first_on in
    c.first_on.ensures.meets
    ∙ ap (λ s. meets_on c.args.graph.now s c.args.t c.args.p) (spans_are after)
