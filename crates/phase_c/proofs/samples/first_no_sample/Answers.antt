use Rattle.std.proofs.Common.{rules, pos, get_or, w64, FitsSigned}
use Rattle.phase_accum.proofs.Parts.{can_send}
use Rattle.phase_c.proofs.Cuts.{is_lowest, sends_more}
use Rattle.phase_c.proofs.samples.first_no_sample.Goals as goal

-- one more number is a sample
pub loop-at-preserved : goal.loop-at-preserved
loop-at-preserved c =
    let samples = c.args.samples.now in
    let at = c.loop-at.at in
    let fits : FitsSigned w64 (get_or samples at (pos 0)) = search rules in
    sends_more samples at (pos 0) c.loop-at-test.true c.loop-at.invariant
    (can_send (get_or samples at (pos 0)) fits c.if-samples-at.false)

-- this one is none, and those before it are samples
pub returns-then-samples-at-clause-some : goal.returns-then-samples-at-clause-some
returns-then-samples-at-clause-some c =
    let samples = c.args.samples.now in
    let at = c.loop-at.at in
    let fits : FitsSigned w64 (get_or samples at (pos 0)) = search rules in
    record {
      there = c.loop-at-test.true;
      none = is_lowest (get_or samples at (pos 0)) fits c.if-samples-at.true;
      before = c.loop-at.invariant;
    }
