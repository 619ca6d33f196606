use Rattle.std.proofs.Common.{◌≡◌, None, rules, sym, ap, ◌∙◌}
use Rattle.std.specs.Option.{option_map}
use Rattle.stream_lists.specs.Meetings.{meeting_with}
use Rattle.stream_lists.proofs.Firsts.{first-pass}
use Rattle.stream_lists.proofs.meetings.first_above.Goals as goal

-- nor this one
pub loop-u-preserved : goal.loop-u-preserved
loop-u-preserved c =
    let none : c.first_phase.result ≡ None = search rules in
    c.loop-u.invariant
    ∙ first-pass (meeting_with c.args.graph.now c.args.spans.now c.args.t c.args.p) c.args.t
    c.loop-u.u c.loop-u-test.true
    (ap (option_map (λ n. record { task = c.loop-u.u; phase = n }))
    (sym c.first_phase.ensures ∙ none))
