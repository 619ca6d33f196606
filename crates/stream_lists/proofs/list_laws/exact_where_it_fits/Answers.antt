use Rattle.stream_lists.proofs.Exacts.{exact_outputs, exact_members, exact_taken, exact_lines_are}
use Rattle.stream_lists.proofs.list_laws.exact_where_it_fits.Goals as goal

pub returns-clause-outputs : goal.returns-clause-outputs
returns-clause-outputs c = exact_outputs

pub returns-clause-lists : goal.returns-clause-lists
returns-clause-lists c = exact_members

pub returns-clause-taken : goal.returns-clause-taken
returns-clause-taken c = exact_taken

pub returns-clause-lines : goal.returns-clause-lines
returns-clause-lines c = exact_lines_are
