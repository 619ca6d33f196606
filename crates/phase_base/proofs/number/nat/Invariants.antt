-- The bytes up to here are digits, and write the number so far.
use Rattle.std.proofs.Common.{◌≡◌, take, drop}
use Rattle.std.specs.List.{list_all}
use Rattle.std.specs.Str.Parse.{digits_value}
use Rattle.phase_base.specs.Words.{is_digit}
use Rattle.phase_base.proofs.number.nat.Given as goal

abbrev pub invariant-loop-b : goal.invariant-loop-b
invariant-loop-b l = record {
  digits : list_all is_digit l.word ≡ list_all is_digit (drop l.b-index l.word);
  value : l.n ≡ digits_value 10 (take l.b-index l.word);
}
