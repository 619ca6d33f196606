use Rattle.std.proofs.Common.{arith, ◌+◌, ◌∙◌, sym, get_or}
use Rattle.std.proofs.lemmas.Str.{digit_value_digit}
use Rattle.std.proofs.lemmas.Int.Digits.{digits_value_more}
use Rattle.phase_base.proofs.Numbers.{digit_in, digit_step, too_great}
use Rattle.phase_base.proofs.number.nat.Goals as goal

-- with one digit more the number is above the limit
pub returns-then-n-limit-clause-value : goal.returns-then-n-limit-clause-value
returns-then-n-limit-clause-value c =
    let w = c.args.word.now in
    let i = c.loop-b.b-index in
    let value = c.loop-b.invariant.value in
    let more = digits_value_more 10 w i c.loop-b-test.true in
    sym (too_great c.args.limit w (i + 1) (omega (arith, more, c.if-n-limit.true)))

-- the number of one digit more
pub loop-b-preserved : goal.loop-b-preserved
loop-b-preserved c =
    let w = c.args.word.now in
    let i = c.loop-b.b-index in
    let is = sym c.is_digit.ensures ∙ c.if-not-is_digit.false in
    let value = c.loop-b.invariant.value in
    let more = digits_value_more 10 w i c.loop-b-test.true in
    let digit = digit_value_digit (get_or w i 0) (digit_in (get_or w i 0) is) in
    record {
      digits = c.loop-b.invariant.digits ∙ digit_step w i c.loop-b-test.true is;
      value = omega (arith, more, digit, c.from.ensures);
    }
