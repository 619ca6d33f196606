-- By what stands at each place of the registrations.
use Rattle.graph_runs.proofs.Standing.{missing, kept, of_input, of_output}
use Rattle.graph_runs.proofs.turns.places_tell.Goals as goal

pub returns-clause-missing : goal.returns-clause-missing
returns-clause-missing c = λ job m t at stands. missing job m t at stands

pub returns-clause-kept : goal.returns-clause-kept
returns-clause-kept c = λ job m t at stands all. kept job m t at stands all

pub returns-clause-input : goal.returns-clause-input
returns-clause-input c = of_input

pub returns-clause-output : goal.returns-clause-output
returns-clause-output c = of_output
