-- The numbers of a script line. Their text is std's `decimal` and `signed_decimal`.
use Rattle.std.specs.Prelude.{ℕ, ℤ, List, Option}
use Rattle.phase_base.specs.Numbers.{nat_within, int_within}

-- the greatest number of a script, and the greatest magnitude
abbrev pub most : ℕ
most = 9223372036854775807

-- the number that a word is, if it is one within the limit
abbrev pub nat_of : List ℕ → Option ℕ
nat_of word = nat_within most word

-- the signed number that a word is, if it is one of a magnitude within the limit
abbrev pub int_of : List ℕ → Option ℤ
int_of word = int_within most word
