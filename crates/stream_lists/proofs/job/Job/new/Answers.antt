use Rattle.std.proofs.Common.{rules, arith, ◌≡◌, Some, None, ap, subst, ◌∙◌}
use Rattle.std.specs.List.{All}
use Rattle.stream_lists.specs.JobFields.{given, IsCounted}
use Rattle.stream_lists.specs.Meetings.{meeting_line}
use Rattle.stream_lists.proofs.Given.{IsGivenBy, given-counts, meeting-given}
use Rattle.stream_lists.proofs.job.Job.new.Goals as goal
use Rattle.stream_lists.proofs.job.Job.new.Goals.{After-first_meeting}

-- the spans and the lengths are those of the graph with its samples
are_given : (c : After-first_meeting)
    → IsGivenBy c.args.graph c.args.samples.items c.in-Ok-all_lengths.lengths.items
    c.in-Ok-all_spans.spans.items
are_given c =
    given-counts c.args.graph c.args.samples.items _ _ _ _ _ _ _ c.deref.ensures.value
    c.in-Ok.ensures.counts c.deref-2.ensures.value c.in-Ok-all_lengths.ensures.lengths
    c.deref-3.ensures.value c.deref-4.ensures.value c.in-Ok-all_spans.ensures.spans

-- and so is the meeting
meeting : (c : After-first_meeting)
    → meeting_line (given c.args.graph c.args.samples.items) ≡ c.first_meeting.result
meeting c =
    let by = are_given c in
    meeting-given c.args.graph c.args.samples.items _ _ _ by.spans_are c.deref-5.ensures.value
    c.first_meeting.ensures

-- the line is that of the first task that meets one above it
pub returns-in-Some-clause-any_meets : goal.returns-in-Some-clause-any_meets
returns-in-Some-clause-any_meets c line e =
    let same : c.in-Some.line ≡ line = grind (arith, e) in
    meeting (goal.at.returns-in-Some-clause-any_meets c).After-first_meeting
    ∙ (c.in-Some.is ∙ ap Some same)

-- what the job keeps is of its graph and samples
pub invariant_of-result : goal.invariant_of-result
invariant_of-result c =
    let after = (goal.at.invariant_of-result c).After-first_meeting in
    let by = are_given after in
    let none : c.first_meeting.result ≡ None = search rules in
    record {
      each = c.requires.each;
      spans_are = by.spans_are;
      lengths_are = by.lengths_are;
      span_each = c.in-Ok-all_spans.ensures.each;
      length_each = c.in-Ok-all_lengths.ensures.each;
      short = c.in-Ok-all_spans.ensures.short;
      counted = subst (All IsCounted) c.deref-6.ensures.value
          (c.are_counted.ensures (search rules));
      length_short = c.in-Ok-all_lengths.ensures.short;
      sends = c.requires.sends;
      apart = meeting after ∙ none;
    }

-- no two tasks meet
pub returns-clause-apart : goal.returns-clause-apart
returns-clause-apart c =
    let none : c.first_meeting.result ≡ None = search rules in
    meeting (goal.at.returns-clause-apart c).After-first_meeting ∙ none
