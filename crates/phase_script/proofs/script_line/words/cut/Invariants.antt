-- The bytes so far have no space, so the first space of the text is the first one from here on.
use Rattle.std.proofs.Common.{◌≡◌, ◌++◌, take, drop}
use Rattle.phase_script.specs.Words.{word, rest}
use Rattle.phase_script.proofs.script_line.words.cut.Given as goal

abbrev pub invariant-loop-i : goal.invariant-loop-i
invariant-loop-i l = record {
  word : word l.text ≡ take l.i l.text ++ word (drop l.i l.text);
  rest : rest l.text ≡ rest (drop l.i l.text);
}
