use Rattle.graph_base.specs.Graphs.{no_graph}
use Rattle.graph_lang.proofs.Single.{one_reading_from}
use Rattle.graph_lang.proofs.laws.one_reading.Goals as goal

-- line by line: each comes to one thing
pub returns : goal.returns
returns c = λ version. one_reading_from version 1 no_graph
