use Rattle.graph_commands.proofs.Explaining.{laid-out}
use Rattle.graph_commands.proofs.further.further_lines.Goals as goal

-- the texts were laid out
pub returns-in-Ok-laid_out : goal.returns-in-Ok-laid_out
returns-in-Ok-laid_out c = laid-out c.deref.result.now _ c.in-Ok-laid_out.ensures
