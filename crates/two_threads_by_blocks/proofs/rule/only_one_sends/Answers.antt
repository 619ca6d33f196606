use Rattle.std.proofs.Common.{◌≡◌, ◌<◌, ap, ◌∙◌, arith}
use Rattle.std.specs.Prelude.{None, Option}
use Rattle.phase_accum.specs.Values.{sum_value, applied}
use Rattle.phase_accum.specs.declared.outcome.Outcome.TheVariants.{Empty}
use Rattle.phase_accum.specs.declared.single.Single.{Single}
use Rattle.phase_history.specs.Histories.{done_of, top_of}
use Rattle.phase_history.specs.Phases.{value_of_phase, single_of_phase, sends_of_phase}
use Rattle.phase_history.specs.Sent.{sent_in}
use Rattle.phase_history.proofs.Streams.{same_values}
use Rattle.two_threads_by_blocks.proofs.Sole.{names_none, others_silent}
use Rattle.two_threads_by_blocks.proofs.rule.only_one_sends.Goals as goal

pub returns : goal.returns
returns c = λ limits h legal keeps none.
    let at_top : done_of h ≡ top_of h = c.all_dropped.ensures.done h none in
    same_values (λ p. sum_value (sent_in h 1 p)) (value_of_phase sum_value h) (done_of h) Empty
    (λ p low.
    let plain : single_of_phase h p ≡ None = c.each_phase_is_named.ensures.single limits h p None legal (let low' : p < done_of h = low in omega arith) (names_none h keeps) in
    let one : sends_of_phase h p ≡ sent_in h 1 p = c.one_sender.ensures h 1 p (λ other not. others_silent h other p keeps not) in
    ap (λ (s : Option Single). applied s (sum_value (sends_of_phase h p))) plain ∙ ap sum_value one)
