use Rattle.std.proofs.Common.{◌≡◌, [], ◌∷◌, map, drop, sym, ap, subst, ◌∙◌}
use Rattle.phase_accum.specs.Values.{sum_value}
use Rattle.phase_history.specs.Phases.{received_by}
use Rattle.phase_shared.specs.Regs.{PastState, phaser_lock, phaser_limits}
use Rattle.two_threads_by_blocks.specs.declared.rule.ByOne.{ByOne}
use Rattle.two_threads_by_blocks.specs.Sent.{GotSent}
use Rattle.two_threads_by_blocks.proofs.Sole.{same_head}
use Rattle.two_threads_by_blocks.proofs.leaves.Goals as goal

pub returns : goal.returns
returns g c =
    let l = c.leave.result in
    let n = c.args.taker.number in
    let w = c.leave.ensures.whole c.requires.ended in
    let good = c.leave.ensures.good in
    let at = phaser_lock c.args.bus.now in
    let limits = phaser_limits c.args.bus.now in
    let values = c.into_parts-past.result.1.items in
    let others = map (λ list. list.items) c.into_parts-past.result.2.items in
    let lists : values ∷ others ≡ received_by sum_value l.seen n ∷ [] =
    c.into_parts-past.ensures.lists ∙ ap (λ ns. map (received_by sum_value l.seen) ns) c.leave.ensures.past.numbers in
    let got : GotSent at limits l values = record {
      past_at = c.leave.ensures.past.at ∙ c.requires.at;
      legal = good.legal;
      ended = w.no_signaller;
      task = n;
      is_of = c.leave.ensures.past.numbers;
      start = w.start;
      start_is = w.start_is;
      values_are = same_head values (received_by sum_value l.seen n) others [] lists ∙ w.whole
          ∙ ap (λ s. drop w.start.wait_phase s) (c.only_one_sends.ensures limits l.seen good.legal good.keeps w.no_signaller);
    } in
    let P : PastState ByOne → Type 0 = λ p. GotSent at limits p values in
    subst P (sym c.into_parts-past.ensures.past) got
