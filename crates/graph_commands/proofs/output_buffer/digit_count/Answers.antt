-- The logarithm counts the digits behind the first.
use Rattle.std.proofs.Common.{arith, length, sym, ap}
use Rattle.std.proofs.lemmas.Fmt.{decimal_digit}
use Rattle.graph_commands.proofs.Decimals.{length-decimal}
use Rattle.graph_commands.proofs.output_buffer.digit_count.Goals as goal

pub returns-then-number-eq0 : goal.returns-then-number-eq0
returns-then-number-eq0 c = sym (ap length (decimal_digit c.args.number (omega arith)))

pub returns-else-number-eq0 : goal.returns-else-number-eq0
returns-else-number-eq0 c =
    length-decimal c.args.number c.ilog10.result c.ilog10.ensures.power_le c.ilog10.ensures.next_power_gt
    c.ranges.number.fits
