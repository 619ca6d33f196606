use Rattle.std.proofs.Common.{Some, get_or, ap, sym, ◌∙◌}
use Rattle.std.specs.Prelude.{max}
use Rattle.stream_lists.specs.Spans.{nowhere, end_of}
use Rattle.stream_lists.proofs.FirstMeetings.{both_some, both_none}
use Rattle.stream_lists.proofs.meetings.first_phase.Goals as goal

-- they signal in no phase both
pub returns-then-not-meet : goal.returns-then-not-meet
returns-then-not-meet c =
    sym (both_none
    (get_or c.args.spans.now c.args.t nowhere).offset
    (end_of c.args.graph.now c.args.spans.now c.args.p c.args.t)
    (get_or c.args.spans.now c.args.u nowhere).offset
    (end_of c.args.graph.now c.args.spans.now c.args.p c.args.u)
    (sym c.meet.ensures ∙ c.if-not-meet.true))

-- the later of those in which they begin is the first
pub returns : goal.returns
returns c =
    let first = ap (λ a. max a c.offset_at-2.result) c.offset_at.ensures
    ∙ ap (λ b. max (get_or c.args.spans.now c.args.t nowhere).offset b) c.offset_at-2.ensures in
    ap Some (c.max.ensures ∙ first)
    ∙ sym (both_some
    (get_or c.args.spans.now c.args.t nowhere).offset
    (end_of c.args.graph.now c.args.spans.now c.args.p c.args.t)
    (get_or c.args.spans.now c.args.u nowhere).offset
    (end_of c.args.graph.now c.args.spans.now c.args.p c.args.u)
    (sym c.meet.ensures ∙ c.if-not-meet.false))
