-- How long the text of a value is.
use Rattle.std.proofs.Common.{◌≤◌, ℤ, length, arith}
use lib.IntN.{pos, negsuc}
use Rattle.std.specs.Fmt.{signed_decimal}
use Rattle.std.proofs.lemmas.Fmt.{length_signed_le}
use Rattle.phase_accum.specs.Sends.{IsSend}

pub value_short : (v : ℤ) → IsSend v → length (signed_decimal v) ≤ 20
value_short (pos n) is = let small = is.small in length_signed_le 19 (pos n) (omega arith) (omega arith)
value_short (negsuc n) is =
    let small = is.small in length_signed_le 19 (negsuc n) (omega arith) (omega arith)
