-- Values in range are values that can be sent.
use Rattle.std.proofs.Common.{◌≡◌, ℤ, false, arith}
use Rattle.std.proofs.lemmas.Bool.Decides.{nat_tests}
use Rattle.phase_accum.specs.Sends.{IsSend}
use Rattle.stream_lists.specs.Ranges.{is_out_of_range}

pub IsSend-in_range : (z : ℤ) → is_out_of_range z ≡ false → IsSend z
IsSend-in_range z e = record { small = grind (arith, nat_tests, e) }
