-- The law of what is read, a lemma.
use Rattle.phase_script.proofs.Grammar.{command_found}
use Rattle.phase_script.proofs.laws.grammar_found.Goals as goal

pub returns : goal.returns
returns c = command_found
