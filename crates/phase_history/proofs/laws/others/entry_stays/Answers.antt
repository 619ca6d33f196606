-- Another task's accepted event leaves the entry.
use Rattle.std.proofs.Common.{◌≡◌, Some, sym, subst}
use Rattle.phase_base.specs.Members.{entry_of}
use Rattle.phase_history.specs.Histories.{History, members_of}
use Rattle.phase_history.specs.Legal.{IsLegal}
use Rattle.phase_history.proofs.Used.{entry_of-others}
use Rattle.phase_history.proofs.laws.others.entry_stays.Goals as goal

pub returns : goal.returns
returns c = λ limits tasks old new task entry came has legal found.
    rw came.is (entry_of-others limits came.later old task entry (rw came.is at legal) (came.others task has) found)
