use Rattle.std.proofs.Common.{◌≡◌, drop, take, true, map}
use Rattle.std.specs.List.{list_all}
use Rattle.graph_text.specs.Plain.{plain}
use Rattle.phase_base.specs.Numbers.{is_int, int_value}
use Rattle.graph_lang.specs.Faults.{is_tap_within}
use Rattle.graph_lang.proofs.within.taps_of.Given as goal

-- the words that are left are numbers, the others were taps, and their numbers are there
abbrev pub invariant-loop-word : goal.invariant-loop-word
invariant-loop-word l = record {
  ints : list_all is_int (plain (drop l.word-index l.words)) ≡ true;
  rest : list_all is_tap_within (plain l.words) ≡ list_all is_tap_within (plain (drop l.word-index l.words));
  made : l.taps.items ≡ map int_value (plain (take l.word-index l.words));
}
