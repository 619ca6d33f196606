-- The sink made no more calls, and no phase came after the end.
use Rattle.std.proofs.Common.{sym, ap, ◌∙◌}
use Rattle.phase_accum.specs.Values.{sum_value}
use Rattle.phase_base.specs.Lists.{is_in}
use Rattle.phase_shared.specs.Regs.{phaser_limits}
use Rattle.three_stages.proofs.Joined.{is_in-append}
use Rattle.three_stages.proofs.joins.Goals as goal

pub returns : goal.returns
returns c =
    let sunk = c.requires.sunk in
    let old = c.args.sunk.past in
    let new = c.join-past.result in
    let limits = phaser_limits c.args.bus.now in
    record {
      past_at = c.join-past.ensures.at ∙ sunk.past_at;
      legal = c.join-past.ensures.good.legal;
      sink = sunk.sink;
      went_in = ap (is_in sunk.sink) c.join-past.ensures.numbers ∙ is_in-append sunk.sink old.numbers c.args.others.numbers sunk.went_in;
      whole = c.whole.ensures.stays sum_value limits old.numbers old.seen new.seen sunk.sink c.join-past.ensures.good.legal
          c.join-past.ensures.first sunk.went_in sunk.whole;
      values_are = sunk.values_are
          ∙ sym ((c.parts_stay.ensures.one old.numbers old.seen new.seen sunk.sink c.join-past.ensures.first sunk.went_in).received sum_value);
    }
