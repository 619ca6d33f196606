use Rattle.std.proofs.Common.{◌≡◌, None, sym, ap, ◌∙◌}
use Rattle.std.specs.Prelude.{is_some, if◌then◌else◌}
use Rattle.stream_lists.specs.Meetings.{meeting_above, meeting_on}
use Rattle.stream_lists.proofs.FirstMeetings.{on_is}
use Rattle.stream_lists.proofs.meetings.first_on.Goals as goal

-- the phaser is one with `any`
pub returns-clause-meets : goal.returns-clause-meets
returns-clause-meets c =
    let meeting : c.first_above.result
    ≡ meeting_on c.args.graph.now c.args.spans.now c.args.t c.args.p =
    c.first_above.ensures.meeting
    ∙ sym (ap (λ any. if any
    then meeting_above c.args.graph.now c.args.spans.now c.args.t c.args.p else None)
    (sym c.is_any_line.ensures ∙ c.if-not-is_any_line.false)) in
    ap is_some meeting ∙ on_is c.args.graph.now c.args.spans.now c.args.t c.args.p
