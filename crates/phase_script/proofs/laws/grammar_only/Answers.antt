-- The law of what is spelled, a lemma.
use Rattle.phase_script.proofs.Grammar.{command_only}
use Rattle.phase_script.proofs.laws.grammar_only.Goals as goal

pub returns : goal.returns
returns c = command_only
