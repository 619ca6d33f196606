-- A founder's own events come to this.
use Rattle.graph_runs.proofs.Founding.{founds, founder_registers, founder_leaves}
use Rattle.graph_runs.proofs.ends.founders.Goals as goal

pub returns-clause-made : goal.returns-clause-made
returns-clause-made c = founds

pub returns-clause-registers : goal.returns-clause-registers
returns-clause-registers c = founder_registers

pub returns-clause-leaves : goal.returns-clause-leaves
returns-clause-leaves c = founder_leaves
