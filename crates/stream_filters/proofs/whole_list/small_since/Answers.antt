use Rattle.std.proofs.Common.{arith}
use Rattle.stream_filters.proofs.WholeLists.{AreSmall-more}
use Rattle.stream_filters.proofs.whole_list.small_since.Goals as goal

-- the samples that were tested
pub returns-then-are_within-clause-small : goal.returns-then-are_within-clause-small
returns-then-are_within-clause-small c =
    AreSmall-more c.args.limit c.args.samples.now c.args.since c.args.at c.args.end (omega arith)
    (c.are_within.ensures.0 c.if-are_within.true)
