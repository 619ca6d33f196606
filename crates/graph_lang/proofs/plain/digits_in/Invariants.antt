use Rattle.std.proofs.Common.{◌≡◌, take}
use Rattle.std.specs.Str.Parse.{AllDigits, digits_value}
use Rattle.graph_lang.proofs.plain.digits_in.Given as goal

-- the bytes so far are digits, of this value
abbrev pub invariant-loop-size : goal.invariant-loop-size
invariant-loop-size l = record {
  digits : AllDigits 10 (take l.size l.text);
  value : l.value ≡ digits_value 10 (take l.size l.text);
}
