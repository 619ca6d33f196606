-- A command within limits has short numbers, so a longer line is no spelling.
use Rattle.std.proofs.Common.{refl}
use Rattle.phase_script.proofs.Grammar.{long_none}
use Rattle.phase_script.proofs.laws.lines_are_short.Goals as goal

pub returns : goal.returns
returns c = record { short = long_none; number = refl }
