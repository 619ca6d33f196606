-- One more outcome is told.
use Rattle.std.proofs.Common.{◌++◌, codes, decimal, arith}
use Rattle.phase_script.proofs.ReplyLines.{outcomes_more}
use Rattle.phase_script.proofs.reply_line.ReplyLine.write_values.Goals as goal

pub loop-outcome-preserved : goal.loop-outcome-preserved
loop-outcome-preserved c =
    let l = c.loop-outcome in
    record {
      line = outcomes_more (codes "values " ++ decimal c.args.phase) l.self c.push_outcome.new.self c.as_slice-outcome-items.result.now l.outcome-index _
          c.loop-outcome-test.true l.invariant.line c.push_outcome.ensures.bytes;
      short = omega (arith, l.invariant.short, c.push_outcome.ensures.short);
      items = l.invariant.items;
      few = l.invariant.few;
    }
