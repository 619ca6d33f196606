use Rattle.phase_script.proofs.CutAtLf.{lines_cut, every_cut}
use Rattle.phase_script.proofs.laws.lines_are_cut_at_lf.Goals as goal

pub returns : goal.returns
returns c = record { lines = lines_cut; every = every_cut }
