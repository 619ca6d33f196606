use Rattle.stream_lists.proofs.EachPhase.{phase_entry, entry_alone}
use Rattle.stream_lists.proofs.OneSend.{one_send}
use Rattle.stream_lists.proofs.list_laws.phases_have_entries.Goals as goal

pub returns-clause-some : goal.returns-clause-some
returns-clause-some c = phase_entry

pub returns-clause-alone : goal.returns-clause-alone
returns-clause-alone c = entry_alone

pub returns-clause-sends : goal.returns-clause-sends
returns-clause-sends c = one_send
