-- The two laws of the grammar, at the command that was read.
use Rattle.phase_script.specs.Commands.{maybe_whole}
use Rattle.phase_script.proofs.Grammar.{found_whole, only_at}
use Rattle.phase_script.proofs.script_line.read.Goals as goal

pub returns-clause-found : goal.returns-clause-found
returns-clause-found c = found_whole c.command.new.values c.args.line.now c.command.result c.command.ensures

pub returns-clause-only : goal.returns-clause-only
returns-clause-only c = only_at c.args.line.now (maybe_whole c.command.new.values c.command.result) c.command.ensures
