use Rattle.std.proofs.Common.{◌≡◌, drop, take, true}
use Rattle.std.specs.List.{list_all}
use Rattle.graph_text.specs.Plain.{plain}
use Rattle.phase_base.specs.Words.{is_name}
use Rattle.graph_base.specs.Names.{names_of}
use Rattle.graph_lang.specs.WordValues.{phaser_numbers}
use Rattle.graph_lang.specs.Faults.{is_phaser}
use Rattle.graph_lang.proofs.body.numbers_of.Given as goal

-- the words that are left are names, the others were of phasers, and their numbers are there
abbrev pub invariant-loop-word : goal.invariant-loop-word
invariant-loop-word l = record {
  names : list_all is_name (plain (drop l.word-index l.words)) ≡ true;
  rest : list_all (is_phaser (names_of l.names.entries)) (plain l.words)
      ≡ list_all (is_phaser (names_of l.names.entries)) (plain (drop l.word-index l.words));
  made : l.numbers.items ≡ phaser_numbers (names_of l.names.entries) (plain (take l.word-index l.words));
}
