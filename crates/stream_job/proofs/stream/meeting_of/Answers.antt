-- With as many samples of each source as there may be.
use Rattle.std.proofs.Common.{◌≡◌, ap, ◌∙◌, subst}
use Rattle.std.specs.Prelude.{IfOk, replicate}
use Rattle.stream_lists.specs.Jobs.{counted}
use Rattle.stream_lists.specs.Meetings.{meeting_line}
use Rattle.stream_lists.specs.declared.sample_counts.TheConstants.{COUNT_MAX}
use Rattle.stream_job.proofs.stream.meeting_of.Goals as goal

pub returns : goal.returns
returns c =
    subst (λ counts. IfOk c.meeting_with.result
    (λ line. line ≡ meeting_line (counted c.args.graph.now counts)))
    (c.deref.ensures.value ∙ c.in_ok-counts.ensures.items_if_clones_equal (λ y same. same)
    ∙ ap (λ n. replicate n COUNT_MAX) c.sources.ensures.count)
    c.meeting_with.ensures
