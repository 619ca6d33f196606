use Rattle.graph_text.proofs.Spelled.{one_declaration}
use Rattle.graph_text.proofs.laws.one_declaration.Goals as goal

-- what is spelled is read so, and a reading has one answer
pub returns : goal.returns
returns c = one_declaration
