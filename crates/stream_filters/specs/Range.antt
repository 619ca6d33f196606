-- The range of the values on a stream.
use Rattle.std.specs.Prelude.{ℤ, List, negsuc, nat_le, not, Bool, unsigned_abs, Result, Ok, Err, if◌then◌else◌}
use Rattle.std.specs.List.{take_while}
use Rattle.stream_filters.specs.declared.fault.TooBigValue.{TooBigValue}

-- -9223372036854775808, which is no value
abbrev pub lowest : ℤ
lowest = negsuc 9223372036854775807

-- the value where its magnitude is at most 9223372036854775807, else `TooBigValue`
abbrev pub ranged : ℤ → Result ℤ TooBigValue
ranged z = if nat_le (unsigned_abs z) 9223372036854775807 then Ok z else Err (record {})

-- whether a number is past the greatest value or below the least
abbrev pub is_out_of_range : ℤ → Bool
is_out_of_range z = not (nat_le (unsigned_abs z) 9223372036854775807)

-- those of these numbers that stand before the first one out of range
abbrev pub before_out_of_range : List ℤ → List ℤ
before_out_of_range numbers = take_while (λ z. not (is_out_of_range z)) numbers
