use Rattle.phase_base.proofs.OperationWords.{operation-words}
use Rattle.phase_base.proofs.laws.operations_have_one_word.Goals as goal

-- each of the five
pub returns : goal.returns
returns c = operation-words
