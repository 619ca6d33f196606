use Rattle.graph_text.specs.Plain.{plain}
use Rattle.graph_text.proofs.Answered.{found, none}
use Rattle.graph_text.proofs.read.line_at.Goals as goal

-- what is read is spelled so
pub returns-clause-found : goal.returns-clause-found
returns-clause-found c = found c.args.version c.read.result (plain c.args.words.now) c.read.ensures

-- what is spelled is read so
pub returns-clause-none : goal.returns-clause-none
returns-clause-none c = none c.args.version c.read.result (plain c.args.words.now) c.read.ensures
