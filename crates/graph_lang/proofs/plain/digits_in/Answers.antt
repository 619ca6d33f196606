-- One more digit.
use Rattle.std.proofs.Common.{◌<◌, length, arith, get_or}
use Rattle.std.proofs.lemmas.Str.{digit_value_digit}
use Rattle.std.proofs.lemmas.Int.Digits.{digits_value_more, digits_more}
use Rattle.graph_lang.proofs.Digits.{few_digits}
use Rattle.graph_lang.proofs.plain.digits_in.Goals as goal

pub overflow_mul-value : goal.overflow_mul-value
overflow_mul-value c =
    let within : c.loop-size.size < length c.args.text.now = omega (arith, c.min-limit.ensures) in
    let small = few_digits c.args.text.now c.loop-size.size within (omega arith) c.loop-size.invariant.digits in
    let v = c.loop-size.invariant.value in
    omega arith

pub overflow_add-value : goal.overflow_add-value
overflow_add-value c =
    let within : c.loop-size.size < length c.args.text.now = omega (arith, c.min-limit.ensures) in
    let small = few_digits c.args.text.now c.loop-size.size within (omega arith) c.loop-size.invariant.digits in
    let v = c.loop-size.invariant.value in
    let d = c.from.ensures in
    omega arith

pub loop-size-preserved : goal.loop-size-preserved
loop-size-preserved c =
    let within : c.loop-size.size < length c.args.text.now = omega (arith, c.min-limit.ensures) in
    let small = few_digits c.args.text.now c.loop-size.size within (omega arith) c.loop-size.invariant.digits in
    let v = c.loop-size.invariant.value in
    let bs = c.args.text.now in
    let d = digit_value_digit (get_or bs c.loop-size.size 0) (omega arith, omega arith) in
    record {
      digits = digits_more 10 bs c.loop-size.size within c.loop-size.invariant.digits (omega arith);
      value = omega (arith, digits_value_more 10 bs c.loop-size.size within, c.from.ensures);
    }
