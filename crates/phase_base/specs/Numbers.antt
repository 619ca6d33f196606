-- Which words are numbers, and what number each is.
use Rattle.std.specs.Prelude.{ℕ, suc, zero, ℤ, pos, negsuc, neg_ℤ, ◌==◌, ◌&&◌, not, nat_le, Bool, false, if◌then◌else◌, [], ◌∷◌, length, slice_index, codes, Option, Some, None, option_and_then, option_map}
use Rattle.std.specs.List.{list_all}
use Rattle.std.specs.Str.{bytes_eq}
use Rattle.std.specs.Str.Parse.{digits_value}
use Rattle.phase_base.specs.Words.{Word, is_digit}

-- there is a byte, and no 0 stands before others
abbrev pub begins_plainly : Word → Bool
begins_plainly word = not (length word == 0)
    && not ((slice_index word 0 == 48) && not (length word == 1))

-- `0`, or digits of which the first is not 0
abbrev pub is_nat : Word → Bool
is_nat word = begins_plainly word && list_all is_digit word

-- the number that the digits write
abbrev pub nat_value : Word → ℕ
nat_value word = digits_value 10 word

-- a `nat`, or a minus before a `nat` other than `0`
abbrev pub is_int : Word → Bool
is_int [] = false
is_int (b ∷ bs) = if b == 45 then is_nat bs && not (bytes_eq bs (codes "0")) else is_nat (b ∷ bs)

-- the number that the digits, behind a minus where there is one, write
abbrev pub int_value : Word → ℤ
int_value [] = pos 0
int_value (b ∷ bs) =
    if b == 45 then neg_ℤ (pos (nat_value bs)) else pos (nat_value (b ∷ bs))

-- the number that a word is, if it is one of at most the limit
unfoldable pub nat_within : ℕ → Word → Option ℕ
nat_within limit word =
    if is_nat word && nat_le (nat_value word) limit then Some (nat_value word) else None

-- the number with a minus, for which 0 has no text
abbrev pub negated : ℕ → Option ℤ
negated zero = None
negated (suc n) = Some (negsuc n)

-- the number, perhaps with a minus, that a word is, if its magnitude is at most the limit
unfoldable pub int_within : ℕ → Word → Option ℤ
int_within limit [] = None
int_within limit (b ∷ bs) = if b == 45
    then option_and_then negated (nat_within limit bs)
    else option_map pos (nat_within limit (b ∷ bs))
